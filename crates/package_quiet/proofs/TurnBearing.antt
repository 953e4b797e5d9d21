-- One turn of a leg, while no more befalls links than it bears: what it counts, and where it stands
use Rattle.std.proofs.Common.{◌≡◌, ◌∙◌, ◌<◌, ◌≤◌, ◌&&◌, ℕ, max, not, Bool, true, false, Option, None, Some, refl, sym, ap, subst, arith}
use Rattle.z_types.specs.declared.sitting.Sitting as sitting
use Rattle.z_types.specs.declared.world.World as world
use Rattle.gw_outside.specs.Happened.{AreLess, AreSame, Happened}
use Rattle.gw_outside.specs.declared.backends.Opening.TheVariants as opening
use Rattle.pool_sets.specs.Plain.{Pool}
use Rattle.package.specs.leg.Accounts.{more}
use Rattle.package.specs.leg.Deeds.{BackendView, Deed, HappensThen, took, opened, began, heard, put_back, gave_up, redialled, no_memory, nothing, looks_after, rises_of}
use Rattle.package.specs.leg.Phases.{is_given, looks_of}
use Rattle.package.specs.leg.Rules.{Ends, answer_of, lack_of, left_by, next}
use Rattle.package.specs.leg.Tasks.{want_of}
use Rattle.package.specs.leg.Terms.{Terms, sites}
use Rattle.package.specs.leg.Turns.{DoorView, IsTurn, PoolMoves}
use Rattle.package.specs.leg.declared.accounts.Account.{Account}
use Rattle.package.specs.leg.declared.answers.Turned.{Turned}
use Rattle.package.specs.leg.declared.phases.Phase.{Phase}
use Rattle.package.specs.leg.declared.tasks.Task.{Task}
use Rattle.package_quiet.specs.steps.Bearing.{AreCutOnceMade, BearsAt, BearsOn, DialsGoOn, IsBorneBy, IsBorneIn}
use Rattle.package_quiet.specs.steps.Quiet.{AreTold}
use Rattle.package_quiet.proofs.CountLemmas.{dials-on}
use Rattle.package_quiet.proofs.LegBearing.{deed-bears}
use Rattle.package_quiet.proofs.SessionBearing.{less-bearable, less-no-worse}
use Rattle.package_quiet.proofs.TurnLemmas.{ends-in}

-- ---- what is made to happen to links

same-less : (old new : Happened) → AreSame old new → AreLess old new
same-less old new same = record {
  steady = same.steady;
  lent = same.lent;
  presents = λ target. (let is = ap (λ h. h.presents) (same.of_target target) in omega (arith, is));
  delay = λ target. ap (λ h. h.delay) (same.of_target target);
  cut = λ target. ap (λ h. h.cut) (same.of_target target);
}

equal-less : (old new : Happened) → new ≡ old → AreLess old new
equal-less old new e = same-less old new (record { steady = ap (λ h. h.steady) e; lent = ap (λ h. h.lent) e; of_target = λ target. ap (λ h. h.of_target target) e })

module _ {W S : Type 0} (w : world.Ghosts W) (t : sitting.Ghosts S W) where
  pub deed-less : (deed : Deed S) (old new : Happened) → HappensThen w t true deed old new → AreLess old new
  deed-less (took gives) old new h = equal-less old new h
  deed-less (opened (opening.Session session)) old new h = same-less old new h
  deed-less (opened (opening.Failed linked)) old new h = same-less old new h
  deed-less (opened opening.Memory) old new h = h
  deed-less (began ask reply session) old new h = h
  deed-less (heard reply session) old new h = same-less old new h
  deed-less put_back old new h = equal-less old new h
  deed-less gave_up old new h = equal-less old new h
  deed-less (redialled member) old new h = equal-less old new h
  deed-less no_memory old new h = equal-less old new h
  deed-less nothing old new h = equal-less old new h

-- links that are cut were made
still-made : (backend moved : BackendView) → AreLess backend.happened moved.happened → backend.counts.dials ≤ moved.counts.dials
    → AreCutOnceMade backend → AreCutOnceMade moved
still-made backend moved less on cuts target =
    let last = cuts target in let same = less.cut target in omega (arith, last, same, on)

-- ---- what is counted

both-below : (a b n : ℕ) → a < n → b < n → max a b < n
both-below a b n h k = omega (arith, h, k)

none-spent : (rises : Bool) (spent : ℕ) → rises ≡ false → spent ≡ 0 → more rises spent ≡ 0
none-spent true spent e z = absurd cc
none-spent false spent e z = z

-- ---- the turn

module _ {W S : Type 0} (w : world.Ghosts W) (t : sitting.Ghosts S W) where
  turn-told : (terms : Terms) (task : Task) (now : ℕ) (old new : Phase S) (a b : Account) (answer : Turned) (door after : DoorView S)
      (backend moved : BackendView) (pool : Option (Pool S)) → door.pool ≡ pool → AreTold w (sites terms)
      → (h : IsTurn w t true terms task now old new a b answer door after backend moved) → DialsGoOn moved.counts
      → IsBorneBy w t terms.pool pool backend → BearsAt w t terms backend.happened old a
      → BearsAt w t terms moved.happened new b × BearsOn w t terms.pool after.pool backend moved
  turn-told terms task now old new a b answer door after backend moved None e told h go borne is = absurd borne.idle
  turn-told terms task now old new a b answer door after backend moved (Some p) e told h go borne is =
      let less = deed-less w t h.deed backend.happened moved.happened h.backend_moves.happened in
      let worse = less-no-worse backend.happened moved.happened less in
      let on = deed-bears w t terms door.counts.most task now a.gones backend moved p after.pool told borne.bearable borne.cut go worse is.borne.few_gone borne.idle borne.uncut
      old h.deed h.due h.links h.backend_moves.counts is.stands
      (subst (λ (q : Option (Pool S)). PoolMoves terms task now old h.deed q after.pool) e h.pool) in
      let gone : b.gones ≡ more (rises_of (want_of task) h.deed).gones a.gones = ap (λ (x : Account). x.gones) h.account in
      let goes = subst (λ (n : ℕ). Ends (lack_of h.deed) (next terms task now n old h.deed) (left_by old h.deed) (answer_of h.deed new) answer new) gone h.goes in (
        record {
          stands = subst (λ (n : ℕ). IsBorneIn w t terms moved.happened new n) (sym gone)
              (ends-in (λ (x : Phase S). IsBorneIn w t terms moved.happened x (more (rises_of (want_of task) h.deed).gones a.gones)) (lack_of h.deed) _ _ new
              (answer_of h.deed new) answer on.stands on.left goes);
          borne = record {
            unfailing = ap (λ (x : Account). x.spent) h.account
                ∙ none-spent ((rises_of (want_of task) h.deed).faults && not (is_given old)) a.spent on.spends is.borne.unfailing;
            few_looks = subst (λ (n : ℕ). n < terms.pool.patience) (sym (ap (λ (x : Account). x.looks) h.account))
                (both-below a.looks (looks_after (looks_of old) h.deed) terms.pool.patience is.borne.few_looks on.in_time);
            few_gone = subst (λ (n : ℕ). n ≤ terms.pool.repeats) (sym gone) on.few_gone;
          };
        },
        record {
          borne = record {
            bearable = less-bearable terms.pool backend.happened moved.happened less borne.bearable;
            cut = still-made backend moved less (dials-on w t true h.deed backend.counts moved.counts h.backend_moves.counts go) borne.cut;
            uncut = λ keeps target. less.cut target ∙ borne.uncut keeps target;
            idle = on.pool;
          };
          worse = worse;
        },
      )

  pub turn-bears : (exact : Bool) (terms : Terms) (task : Task) (now : ℕ) (old new : Phase S) (a b : Account) (answer : Turned)
      (door after : DoorView S) (backend moved : BackendView) → exact ≡ true → AreTold w (sites terms)
      → (h : IsTurn w t exact terms task now old new a b answer door after backend moved) → DialsGoOn moved.counts
      → IsBorneBy w t terms.pool door.pool backend → BearsAt w t terms backend.happened old a
      → BearsAt w t terms moved.happened new b × BearsOn w t terms.pool after.pool backend moved
  turn-bears true terms task now old new a b answer door after backend moved e told h go borne is =
      turn-told terms task now old new a b answer door after backend moved door.pool refl told h go borne is
  turn-bears false terms task now old new a b answer door after backend moved e told h go borne is = absurd cc

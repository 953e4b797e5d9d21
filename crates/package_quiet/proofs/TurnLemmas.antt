-- One turn of a leg over a quiet backend
use Rattle.std.proofs.Common.{◌≡◌, ◌≢◌, ◌∙◌, ◌⊎◌, ℕ, Bool, true, false, inl, inr, Option, None, Some, refl, sym, ap, subst}
use Rattle.z_types.specs.declared.sitting.Sitting as sitting
use Rattle.z_types.specs.declared.world.World as world
use Rattle.pool_sets.specs.Plain.{Pool}
use Rattle.pool_sets.specs.declared.doors.Taken.TheVariants as taken
use Rattle.package.specs.leg.Deeds.{BackendView, Deed, took, opened, began, heard, put_back, gave_up, redialled, no_memory, nothing, looks_after}
use Rattle.package.specs.leg.Phases.{is_done, is_given, looks_of}
use Rattle.package.specs.leg.Rules.{Ends, Lack, always, answer_of, lack_of, left_by, never, perhaps}
use Rattle.package.specs.leg.Terms.{Terms, sites}
use Rattle.package.specs.leg.Turns.{DoorView, IsTurn, PoolMoves}
use Rattle.package.specs.leg.declared.accounts.Account.{Account}
use Rattle.package.specs.leg.declared.answers.Turned.{Turned}
use Rattle.package.specs.leg.declared.answers.Turned.TheVariants as turned
use Rattle.package.specs.leg.declared.phases.Phase.{Phase}
use Rattle.package.specs.leg.declared.phases.Phase.TheVariants.{Begin, Dialling, Dialled, Ready, Searching, Presenting, Fetching, Scanning, Returning, Losing, Redialling, Spoiled, Done, Ended}
use Rattle.package.specs.leg.declared.tasks.Task.{Task}
use Rattle.package.specs.leg.Tasks.{want_of}
use Rattle.package_quiet.specs.steps.Quiet.{AreTold, CountsStay, IsCalm, IsWellAt, WentWell}
use Rattle.package_quiet.specs.steps.Whole.{IsWholeIn}
use Rattle.package_quiet.proofs.CountLemmas.{counts-stay, no-cause, stays-quiet}
use Rattle.package_quiet.proofs.LegLemmas.{deed-goes, left-whole}

-- ---- memory

module _ {S : Type 0} where
  left-begin : (deed : Deed S) → is_done (left_by Begin deed) ≡ false
  left-begin (took (taken.Reuse seat parts slot hits)) = refl
  left-begin (took (taken.Fresh seat parts)) = refl
  left-begin (took (taken.Dial seat member)) = refl
  left-begin (took (taken.Full open_)) = refl
  left-begin (took taken.Memory) = refl
  left-begin (opened made) = refl
  left-begin (began asks reply session) = refl
  left-begin (heard reply session) = refl
  left-begin put_back = refl
  left-begin gave_up = refl
  left-begin (redialled member) = refl
  left-begin no_memory = refl
  left-begin nothing = refl

  -- where memory was wanting a leg is not done
  pub left-open : (phase : Phase S) (deed : Deed S) → is_done phase ≡ false → is_done (left_by phase deed) ≡ false
  left-open Begin deed is = left-begin deed
  left-open (Dialling seat member) deed is = refl
  left-open (Dialled held looks) deed is = refl
  left-open (Ready held items) deed is = refl
  left-open (Searching held items slot looks) deed is = refl
  left-open (Presenting held items slot hits) deed is = refl
  left-open (Fetching held items slot hits looks) deed is = refl
  left-open (Scanning held looks) deed is = refl
  left-open (Returning held own) deed is = refl
  left-open (Losing seat own) deed is = refl
  left-open (Redialling seat) deed is = refl
  left-open (Spoiled seat) deed is = refl
  left-open (Done own) deed is = is
  left-open Ended deed is = refl

-- a turn that had memory: it answers otherwise, or a leg that was not done is done behind it
abbrev pub HadMemory : {S : Type 0} → (answer : Turned) → (old new : Phase S) → Type 0
HadMemory answer old new = (answer ≢ turned.Memory) ⊎ ((is_done old ≡ false) × (is_done new ≡ true))

module _ {S : Type 0} where
  had-always : (lack : Lack) (wanted left new : Phase S) (said answer : Turned) → Ends lack wanted left said answer new → lack ≡ always
      → (new ≡ left) × (answer ≡ turned.Memory)
  had-always lack wanted left new said answer ends is = subst (λ (l : Lack). Ends l wanted left said answer new) is ends

  had : (deed : Deed S) (old new wanted : Phase S) (said answer : Turned) → Ends (lack_of deed) wanted (left_by old deed) said answer new
      → HadMemory answer old new → lack_of deed ≡ always → ⊥
  had deed old new wanted said answer ends (inl other) is = other ((had-always (lack_of deed) wanted (left_by old deed) new said answer ends is).1)
  had deed old new wanted said answer ends (inr done) is =
      let left = (had-always (lack_of deed) wanted (left_by old deed) new said answer ends is).0 in
      let wrong : true ≡ false = sym done.1 ∙ ap is_done left ∙ left-open old deed done.0 in absurd cc

  -- where the leg stands behind it
  pub ends-in : (P : Phase S → Type 0) (lack : Lack) (wanted left new : Phase S) (said answer : Turned) → P wanted → P left
      → Ends lack wanted left said answer new → P new
  ends-in P never wanted left new said answer h l e = subst P (sym e.0) h
  ends-in P always wanted left new said answer h l e = subst P (sym e.0) l
  ends-in P perhaps wanted left new said turned.Memory h l e = subst P (sym e) l
  ends-in P perhaps wanted left new said turned.Went h l e = subst P (sym e.0) h
  ends-in P perhaps wanted left new said turned.NotYet h l e = subst P (sym e.0) h
  ends-in P perhaps wanted left new said turned.Done h l e = subst P (sym e.0) h

-- ---- what is counted

pub stay-where : (other had : Type 0) (old new : _) → (had → other) → CountsStay other old new → CountsStay had old new
stay-where other had old new has h = record { faults = h.faults; waits = h.waits; gones = λ x. h.gones (has x) }

-- ---- the turn

module _ {W S : Type 0} (w : world.Ghosts W) (t : sitting.Ghosts S W) where
  turn-told : (terms : Terms) (task : Task) (now : ℕ) (old new : Phase S) (a b : Account) (answer : Turned) (door after : DoorView S)
      (backend moved : BackendView) (pool : Option (Pool S)) → door.pool ≡ pool → AreTold w (sites terms)
      → IsTurn w t true terms task now old new a b answer door after backend moved
      → IsCalm w t pool backend → IsWellAt w t terms old a
      → IsWellAt w t terms new b × WentWell w t (HadMemory answer old new) after.pool backend moved
  turn-told terms task now old new a b answer door after backend moved None e told h calm is = absurd calm.sessions
  turn-told terms task now old new a b answer door after backend moved (Some p) e told h calm is =
      let goes = deed-goes w t terms door.counts.most task now b.gones backend moved p after.pool told calm.quiet calm.sessions old
      h.deed h.due h.links h.backend_moves.counts is.whole
      (subst (λ (q : Option (Pool S)). PoolMoves terms task now old h.deed q after.pool) e h.pool) in (
        record {
          whole = ends-in (λ (x : Phase S). IsWholeIn w t terms x) (lack_of h.deed) _ _ new (answer_of h.deed new) answer goes.whole
              (left-whole w t terms old h.deed) h.goes;
          none = no-cause (want_of task) h.deed terms.class (looks_after (looks_of old) h.deed) (is_given old) a b goes.well h.account h.looks is.none;
        },
        record {
          calm = record {
            quiet = stays-quiet w t h.deed backend.happened moved.happened calm.quiet h.backend_moves.happened;
            sessions = goes.pool;
          };
          counts = stay-where ((lack_of h.deed ≡ always) → ⊥) (HadMemory answer old new) backend.counts moved.counts
              (λ x. had h.deed old new _ (answer_of h.deed new) answer h.goes x)
              (counts-stay w t h.deed backend.counts moved.counts goes.well h.backend_moves.counts);
        },
      )

  pub turn-well : (exact : Bool) (terms : Terms) (task : Task) (now : ℕ) (old new : Phase S) (a b : Account) (answer : Turned)
      (door after : DoorView S) (backend moved : BackendView) → exact ≡ true → AreTold w (sites terms)
      → IsTurn w t exact terms task now old new a b answer door after backend moved
      → IsCalm w t door.pool backend → IsWellAt w t terms old a
      → IsWellAt w t terms new b × WentWell w t (HadMemory answer old new) after.pool backend moved
  turn-well exact terms task now old new a b answer door after backend moved e told h calm is =
      turn-told terms task now old new a b answer door after backend moved door.pool refl told
      (subst (λ (x : Bool). IsTurn w t x terms task now old new a b answer door after backend moved) e h) calm is

  pub turn-law : (exact : Bool) (terms : Terms) (task : Task) (now : ℕ) (old new : Phase S) (a b : Account) (answer : Turned)
      (door after : DoorView S) (backend moved : BackendView) → exact ≡ true → AreTold w (sites terms)
      → IsTurn w t exact terms task now old new a b answer door after backend moved
      → IsCalm w t door.pool backend → IsWellAt w t terms old a
      → IsWellAt w t terms new b × WentWell w t (answer ≢ turned.Memory) after.pool backend moved
  turn-law exact terms task now old new a b answer door after backend moved e told h calm is =
      let both = turn-well exact terms task now old new a b answer door after backend moved e told h calm is in (
        both.0,
        record {
          calm = both.1.calm;
          counts = stay-where (HadMemory answer old new) (answer ≢ turned.Memory) backend.counts moved.counts (λ x. inl x) both.1.counts;
        },
      )

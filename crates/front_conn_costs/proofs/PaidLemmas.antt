-- What a step of a connection has paid for
use Rattle.std.proofs.Common.{◌≡◌, ◌∙◌, ◌⊎◌, ℕ, ◌+◌, ◌<◌, ◌≤◌, Bool, not, cond, inl, inr, List, [], ◌∷◌, ◌++◌, All, map, Option, None, Some, refl, sym, ap, subst, arith}
use Rattle.std.specs.Prelude.{IfSome}
use Rattle.std.specs.List.{sum_by}
use Rattle.std.proofs.lemmas.List.Elements.{All-append, All-head, All-tail}
use Rattle.std.proofs.lemmas.List.Sums.{sum_by-append, sum_by-cons}
use Rattle.z_types.specs.declared.marks.End.{End}
use Rattle.z_types.specs.declared.sitting.Sitting as sitting
use Rattle.z_types.specs.declared.work.Work.{Work}
use Rattle.z_types.specs.declared.world.World as world
use Rattle.route_config.specs.declared.route.Route.{Route}
use Rattle.front_conn.specs.front_z.declared.units.Begun.{Begun}
use Rattle.front_conn.specs.front_z.declared.units.Begun.TheVariants as begun
use Rattle.front_conn.specs.leg.LegView.{LegView}
use Rattle.front_conn.specs.leg.Phases.{answered, is_done}
use Rattle.front_conn.specs.leg.declared.answers.LegAnswer.{LegAnswer}
use Rattle.front_conn.specs.leg.declared.answers.Turned.{Turned}
use Rattle.front_conn.specs.leg.declared.answers.Turned.TheVariants as turned
use Rattle.front_conn.specs.leg.declared.phases.Phase.{Phase}
use Rattle.front_conn.specs.leg.declared.phases.Phase.TheVariants.{Begin, Dialling, Dialled, Ready, Searching, Presenting, Fetching, Scanning, Returning, Losing, Redialling, Spoiled, Done, Ended}
use Rattle.front_conn.specs.leg.declared.tasks.Task.{Task}
use Rattle.front_conn.specs.package_rules.Asked.{Asked, first_asked}
use Rattle.front_conn.specs.package.steps.Packages.{HasFitting, IsPackageOf, PackageView, new_package}
use Rattle.front_conn.specs.package.steps.Packages.{begun as leg_begun}
use Rattle.front_conn.specs.declared.stepped.Stepped.{Stepped}
use Rattle.front_conn.specs.declared.stepped.Stepped.TheVariants.{Idle, NotYet, Went, Memory}
use Rattle.front_conn.specs.steps.Answering.{AnsweringState, IsKeptBehind, IsKeptBehindHead, Outside, TurnsWork, WorksOn, legs_in}
use Rattle.front_conn.specs.steps.States.{ConnectionState, IsConnOf}
use Rattle.front_conn.specs.steps.Steps.{EndsByRest, GoesAhead, IsStepFrom, TakesHead, TakesUnit, answering_of}
use Rattle.front_conn_costs.specs.steps.Conns.{AreBelowEnd, PaysFor, dues_on}
use Rattle.front_conn_costs.specs.steps.Growth.{RisesAsMuch, RisesEnough, last64}
use Rattle.front_conn_costs.specs.steps.Laws.{RoseSo}
use Rattle.front_conn_costs.specs.steps.Ledgers.{Dues, IsPaid, dues_in, dues_of}
use Rattle.front_conn_costs.proofs.LedgerLemmas.{Pays, Seen, no_dues, package-pays, pays-both, pays-nothing}
use Rattle.front_conn_costs.proofs.OverLemmas.{IsLeftBy, over-left}
use Rattle.front_conn_costs.proofs.PhaseLemmas.{unused}
use Rattle.front_conn.specs.front_sru.declared.begun.Begun as sru_begun
use Rattle.front_conn.specs.front_sru.declared.begun.Begun.TheVariants as get

abbrev seen_of : {S : Type 0} → Outside S → Seen
seen_of outside = record { door = outside.door.counts; backend = outside.backend.counts }

-- ---- a run

module _ {S : Type 0} where
  pays-by : (old new : ConnectionState S) (before behind : Outside S) → Pays (dues_on old) (dues_on new) (seen_of before) (seen_of behind)
      → PaysFor old new before behind
  pays-by old new before behind h = record { cost = h.cost; raised = h.raised; paid = h.paid }

  pub nothing-paid : (state : ConnectionState S) (outside : Outside S) → PaysFor state state outside outside
  nothing-paid state outside = pays-by state state outside outside (pays-nothing (dues_on state) (seen_of outside))

  pub paid-on : (old mid new : ConnectionState S) (before amid behind : Outside S) → PaysFor old mid before amid → PaysFor mid new amid behind
      → PaysFor old new before behind
  paid-on old mid new before amid behind one other =
      let all = pays-both (dues_on old) (dues_on mid) (dues_on mid) (dues_on new) (seen_of before) (seen_of amid) (seen_of behind)
      (record { cost = one.cost; raised = one.raised; paid = one.paid })
      (record { cost = other.cost; raised = other.raised; paid = other.paid }) in
      let s = all.paid.searches in
      let o = all.paid.opens in
      record { cost = all.cost; raised = all.raised; paid = record { searches = omega (arith, s); opens = omega (arith, o) } }

  -- ---- a step that calls nothing

  calm-pays : (old new : ConnectionState S) (before behind : Outside S) → dues_on new ≡ dues_on old → behind ≡ before
      → PaysFor old new before behind
  calm-pays old new before behind e f =
      pays-by old new before behind
      (subst (λ (o : Outside S). Pays (dues_on old) (dues_on new) (seen_of before) (seen_of o)) (sym f)
      (subst (λ (d : Dues). Pays (dues_on old) d (seen_of before) (seen_of before)) (sym e)
      (pays-nothing (dues_on old) (seen_of before))))

  pub dues-none : (state : ConnectionState S) → state.in_work ≡ None → dues_on state ≡ no_dues
  dues-none state e = ap (λ (v : Option (PackageView S)). dues_in (legs_in v)) e

  begun-zero : (f : LegView S → ℕ) → ((asked : Asked) → f (leg_begun asked) ≡ 0) → (asked : List Asked) → sum_by f (map leg_begun asked) ≡ 0
  begun-zero f fresh [] = refl
  begun-zero f fresh (ask ∷ asked) =
      sum_by-cons f (leg_begun ask) (map leg_begun asked)
      ∙ ap (λ (n : ℕ). n + sum_by f (map leg_begun asked)) (fresh ask)
      ∙ ap (λ (n : ℕ). 0 + n) (begun-zero f fresh asked)

  new-zero : (f : LegView S → ℕ) → ((asked : Asked) → f (leg_begun asked) ≡ 0) → (route : Route) (job : Work)
      → sum_by f (legs_in (Some (new_package route job))) ≡ 0
  new-zero f fresh route job =
      sum_by-append f (map leg_begun (first_asked route job)) []
      ∙ ap (λ (n : ℕ). n + 0) (begun-zero f fresh (first_asked route job))

  pub dues-new : (state : ConnectionState S) (route : Route) (job : Work) → state.in_work ≡ Some (new_package route job) → dues_on state ≡ no_dues
  dues-new state route job e =
      ap (λ (v : Option (PackageView S)). dues_in (legs_in v)) e
      ∙ (λ i. record {
        searches = new-zero (λ (l : LegView S). (dues_of l).searches) (λ asked. refl) route job i;
        unused = new-zero (λ (l : LegView S). (dues_of l).unused) (λ asked. refl) route job i;
      })

  module _ (route : Route) (old new : ConnectionState S) (rests : old.in_work ≡ None) where
    kept-dues : (answer : Begun) → IsKeptBehind route (answering_of old) (answering_of new) new.end answer → dues_on new ≡ no_dues
    kept-dues (begun.Write m end) h = dues-none new h.2
    kept-dues (begun.Work job) h = dues-new new route job h.2
    kept-dues begun.Memory h = absurd h

    head-dues : (answer : sru_begun.Begun) → IsKeptBehindHead route (answering_of old) (answering_of new) new.end answer → dues_on new ≡ no_dues
    head-dues (get.Write m end) h = dues-none new h.2
    head-dues (get.Work job) h = dues-new new route job h.2
    head-dues get.Memory h = absurd h

    went-dues : TakesUnit route old new ⊎ TakesHead route old new ⊎ EndsByRest old new → dues_on new ≡ no_dues
    went-dues (inl h) = kept-dues h.begun.answer h.begun.kept
    went-dues (inr (inl h)) = head-dues h.taken.answer h.taken.kept
    went-dues (inr (inr h)) = dues-none new (h.in_work ∙ rests)

    pub ahead-dues : (answer : Stepped) → GoesAhead route old new answer → dues_on new ≡ no_dues
    ahead-dues Idle h = dues-none new (ap (λ (s : ConnectionState S). s.in_work) h.1 ∙ rests)
    ahead-dues NotYet h = absurd h
    ahead-dues Went h = went-dues h.2
    ahead-dues Memory h = dues-none new h.unbegun.in_work

  -- ---- legs that are done owe nothing

  done-unused : (task : Task) (phase : Phase S) (said : LegAnswer) → answered phase ≡ Some said → unused task phase ≡ 0
  done-unused task Begin said e = absurd cc
  done-unused task (Dialling seat member) said e = absurd cc
  done-unused task (Dialled held looks) said e = absurd cc
  done-unused task (Ready held items) said e = absurd cc
  done-unused task (Searching held items slot looks) said e = absurd cc
  done-unused task (Presenting held items slot hits) said e = absurd cc
  done-unused task (Fetching held items slot hits looks) said e = absurd cc
  done-unused task (Scanning held looks) said e = absurd cc
  done-unused task (Returning held own) said e = absurd cc
  done-unused task (Losing seat own) said e = absurd cc
  done-unused task (Redialling seat) said e = absurd cc
  done-unused task (Spoiled seat) said e = absurd cc
  done-unused task (Done own) said e = refl
  done-unused task Ended said e = absurd cc

  fits-unused : (leg : LegView S) (said : Option LegAnswer) → answered leg.phase ≡ said → HasFitting leg.task said → unused leg.task leg.phase ≡ 0
  fits-unused leg None e fits = absurd fits
  fits-unused leg (Some said) e fits = done-unused leg.task leg.phase said e

  abbrev IsFitting : LegView S → Type 0
  IsFitting leg = HasFitting leg.task (answered leg.phase)

  pub over-unused : (legs : List (LegView S)) → All IsFitting legs → (dues_in legs).unused ≡ 0
  over-unused [] done = refl
  over-unused (leg ∷ legs) done =
      sum_by-cons (λ (l : LegView S). (dues_of l).unused) leg legs
      ∙ ap (λ (n : ℕ). n + (dues_in legs).unused) (fits-unused leg (answered leg.phase) refl (All-head IsFitting leg legs done))
      ∙ ap (λ (n : ℕ). 0 + n) (over-unused legs (All-tail IsFitting leg legs done))

  -- one address at most of a leg that is not done
  pub one-unused : (task : Task) (phase : Phase S) → unused task phase ≤ cond (not (is_done phase)) 1 0
  one-unused task Begin = omega arith
  one-unused task (Dialling seat member) = omega arith
  one-unused task (Dialled held looks) = omega arith
  one-unused task (Ready held items) = omega arith
  one-unused task (Searching held items slot looks) = omega arith
  one-unused task (Presenting held items slot hits) = omega arith
  one-unused task (Fetching held items slot hits looks) = omega arith
  one-unused task (Scanning held looks) = omega arith
  one-unused task (Returning held own) = omega arith
  one-unused task (Losing seat own) = omega arith
  one-unused task (Redialling seat) = omega arith
  one-unused task (Spoiled seat) = omega arith
  one-unused task (Done own) = omega arith
  one-unused task Ended = omega arith

-- ---- a step that turns the request in work

module _ {W S : Type 0} (w : world.Ghosts W) (t : sitting.Ghosts S W) (exact : Bool) (route : Route) (now : ℕ)
    (old new : ConnectionState S) (answer : Stepped) (before behind : Outside S) (view : PackageView S)
    (works_on : old.in_work ≡ Some view) (of : IsPackageOf w t route before.door.counts.most view)
    (h : TurnsWork w t exact route now view (answering_of old) (answering_of new) answer new.end before behind) where
  abbrev next_dues : Dues
  next_dues = dues_in (h.next.first ++ h.next.later)

  legs-pay : Pays (dues_on old) next_dues (seen_of before) (seen_of behind)
  legs-pay =
      subst (λ (v : Option (PackageView S)). Pays (dues_in (legs_in v)) next_dues (seen_of before) (seen_of behind)) (sym works_on)
      (package-pays w t exact route now view h.next h.turned before.door behind.door before.backend behind.backend of.asks h.law)

  on-pays : answering_of new ≡ record (answering_of old) { in_work = Some h.next } → PaysFor old new before behind
  on-pays same =
      pays-by old new before behind
      (subst (λ (v : Option (PackageView S)). Pays (dues_on old) (dues_in (legs_in v)) (seen_of before) (seen_of behind))
      (sym (ap (λ (a : AnsweringState S). a.in_work) same)) legs-pay)

  -- behind legs that are done nothing is due
  ends-pay : dues_on new ≡ no_dues → next_dues.unused ≡ 0 → PaysFor old new before behind
  ends-pay none over =
      let s = legs-pay.paid.searches in
      let o = legs-pay.paid.opens in
      record {
        cost = legs-pay.cost;
        raised = legs-pay.raised;
        paid = subst (λ (d : Dues). IsPaid legs-pay.cost (dues_on old) d) (sym none)
            (record { searches = omega (arith, s); opens = omega (arith, o, over) });
      }

  left-dues : (ended : Option End) → IsLeftBy route h.next (answering_of old) (answering_of new) ended → dues_on new ≡ no_dues
  left-dues ended (inl left) = dues-none new left.0
  left-dues ended (inr left) = dues-new new route left.0 left.1

  works-pay : (turned_ : Turned) → WorksOn route turned_ h.next (answering_of old) (answering_of new) answer new.end → PaysFor old new before behind
  works-pay turned.Went on = on-pays on.1
  works-pay turned.NotYet on = on-pays on.1
  works-pay turned.Memory on = on-pays on.1
  works-pay turned.Done on =
      let is = over-left route h.next (answering_of old) (answering_of new) answer new.end on in
      ends-pay (left-dues _ is.left)
      (over-unused (h.next.first ++ h.next.later) (All-append IsFitting h.next.first h.next.later is.over.first is.over.later))

  pub turn-pays : PaysFor old new before behind
  turn-pays = works-pay h.turned h.works

-- ---- a step

module _ {W S : Type 0} (w : world.Ghosts W) (t : sitting.Ghosts S W) (exact : Bool) (route : Route) (now : ℕ)
    (old new : ConnectionState S) (answer : Stepped) (before behind : Outside S) (of : IsConnOf w t route before.door.counts.most old) where
  pub step-pays : (end : Option End) (in_work : Option (PackageView S)) → old.end ≡ end → old.in_work ≡ in_work
      → IsStepFrom w t exact route now end in_work old new answer before behind → PaysFor old new before behind
  step-pays (Some end) in_work e f h = calm-pays old new before behind (ap dues_on h.1) h.2
  step-pays None None e f h =
      calm-pays old new before behind (ahead-dues route old new f answer h.0 ∙ sym (dues-none old f)) h.1
  step-pays None (Some view) e f h =
      turn-pays w t exact route now old new answer before behind view f
      (subst (λ (i : Option (PackageView S)). IfSome i (IsPackageOf w t route before.door.counts.most)) f ((of e).in_work)) h.turns

-- ---- counts that are not at their end

pub plainly-as-much : (n before behind : ℕ) → before < last64 → behind < last64 → RisesAsMuch 0 n before behind → before + n ≡ behind
plainly-as-much n before behind low high h = let e = h before (omega (arith, low)) in omega (arith, e, low, high)

pub plainly-enough : (n before behind : ℕ) → before < last64 → behind < last64 → RisesEnough 0 n before behind → before + n ≤ behind
plainly-enough n before behind low high h = let e = h before (omega (arith, low)) in omega (arith, e, low, high)

module _ {S : Type 0} where
  pub paid-risen : (old new : ConnectionState S) (before behind : Outside S) → old.in_work ≡ None → PaysFor old new before behind
      → AreBelowEnd before → AreBelowEnd behind → RoseSo new before behind
  paid-risen old new before behind rests pays low high =
      let paid : IsPaid pays.cost no_dues (dues_on new) =
      subst (λ (d : Dues). IsPaid pays.cost d (dues_on new)) (dues-none old rests) pays.paid in
      let s = paid.searches in
      let o = paid.opens in
      let searches = plainly-as-much _ _ _ low.searches high.searches pays.raised.searches in
      let booked = plainly-as-much _ _ _ low.booked high.booked pays.raised.booked in
      let opens = plainly-as-much _ _ _ low.opens high.opens pays.raised.opens in
      let dials = plainly-enough _ _ _ low.dials high.dials pays.raised.dials in
      let gones = plainly-enough _ _ _ low.gones high.gones pays.raised.gones in
      let faults = plainly-enough _ _ _ low.faults high.faults pays.raised.faults in
      record {
        searches = omega (arith, s, searches, booked, gones, faults);
        opens = omega (arith, o, opens, dials, faults);
      }

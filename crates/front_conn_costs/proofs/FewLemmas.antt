-- At most as many addresses are due as a request has legs
use Rattle.std.proofs.Common.{◌≡◌, ◌∙◌, ℕ, ◌+◌, ◌≤◌, Bool, true, false, not, cond, inl, inr, List, [], ◌∷◌, ◌++◌, length, map, Option, None, Some, Result, Ok, Err, sym, ap, subst, arith}
use Rattle.std.specs.List.{range_with_len}
use Rattle.std.proofs.lemmas.List.{length-map}
use Rattle.std.proofs.lemmas.List.Concat.{length-flat_map}
use Rattle.std.proofs.lemmas.List.FromFn.{length-range_with_len}
use Rattle.std.proofs.lemmas.List.Sums.{sum_by-append, sum_by-cons, sum_by-le}
use Rattle.z_types.specs.Bounds.{most_legs}
use Rattle.z_types.specs.MergedOrder.{Place}
use Rattle.z_types.specs.declared.diagnostic.Diag.{Diag}
use Rattle.z_types.specs.declared.marks.End.{End}
use Rattle.z_types.specs.declared.marks.Mark.{Mark}
use Rattle.z_types.specs.declared.marks.Mark.TheVariants as mark
use Rattle.z_types.specs.declared.sitting.Sitting as sitting
use Rattle.z_types.specs.declared.work.Work.{Work}
use Rattle.z_types.specs.declared.work.Work.TheVariants as work
use Rattle.z_types.specs.declared.world.World as world
use Rattle.route_config.specs.declared.route.Route.{Route}
use Rattle.z_types.specs.declared.query.RpnQuery.{RpnQuery}
use Rattle.front_conn.specs.gateway_rules.Outcomes.{places_from}
use Rattle.front_conn.specs.gateway_rules.Works.{CanBegin}
use Rattle.front_conn.specs.leg.LegView.{LegView}
use Rattle.front_conn.specs.leg.Phases.{is_done}
use Rattle.front_conn.specs.leg.declared.answers.Turned.{Turned}
use Rattle.front_conn.specs.leg.declared.answers.Turned.TheVariants as turned
use Rattle.front_conn.specs.package_rules.Asked.{Asked, all_records_asked, element_shown, first_asked, hits_asked, places_shown, ranks_of, records_asked, span_of, spans_of, then_asked}
use Rattle.front_conn.specs.package_rules.declared.answered.Answered.{Answered}
use Rattle.front_conn.specs.package_rules.Planned.{by_hits, then_asked_by, unless_marked}
use Rattle.front_conn.specs.package_rules.Said.{all_hits, cause_of}
use Rattle.front_conn.specs.package.steps.Packages.{IsPackageOf, IsPlanned, PackageView, answers_of, asked_of}
use Rattle.front_conn.specs.declared.stepped.Stepped.{Stepped}
use Rattle.front_conn.specs.steps.Answering.{AnsweringState, Outside, WorksOn, legs_in}
use Rattle.front_conn.specs.steps.States.{ConnectionState}
use Rattle.front_conn.specs.steps.Steps.{IsStepFrom, answering_of}
use Rattle.front_conn_costs.specs.steps.Conns.{dues_on}
use Rattle.front_conn_costs.specs.steps.Ledgers.{Dues, dues_in, dues_of}
use Rattle.front_conn_costs.proofs.OverLemmas.{IsLeftBy, over-left}
use Rattle.front_conn_costs.proofs.PaidLemmas.{ahead-dues, dues-new, dues-none, one-unused, over-unused}

-- ---- what a work asks

span-one : (leg : ℕ) (ranks : List ℕ) → length (span_of leg ranks) ≤ 1
span-one leg [] = omega arith
span-one leg (rank ∷ ranks) = omega arith

few-spans : (legs : ℕ) (places : List Place) → length (spans_of legs places) ≤ legs
few-spans legs places =
    let all = length-flat_map (λ (leg : ℕ). span_of leg (ranks_of leg places)) (range_with_len 0 legs) in
    let few = sum_by-le (λ (leg : ℕ). length (span_of leg (ranks_of leg places))) 1 (range_with_len 0 legs)
    (λ k d inside. span-one _ _) in
    let count = length-range_with_len 0 legs in
    omega (arith, all, few, count)

few-records : (route : Route) (login : Option (List ℕ)) (legs : List ℕ) (query : RpnQuery) (syntax element : Option (List ℕ)) (places : List Place)
    → length legs ≤ most_legs → length (all_records_asked route login legs query syntax element places) ≤ most_legs
few-records route login legs query syntax element places few =
    let all = length-map (spans_of (length legs) places) (records_asked route login legs query syntax element) in
    let spans = few-spans (length legs) places in
    omega (arith, all, spans, few)

pub few-first : (route : Route) (job : Work) → CanBegin job → length (first_asked route job) ≤ most_legs
few-first route (work.Search login legs query small large medium small_element medium_element syntax room) can =
    let all = length-map legs (hits_asked route login query) in
    let few = can.0 in
    omega (arith, all, few)
few-first route (work.Fetch login legs query hits first count syntax element) can =
    few-records route login legs query syntax element (places_from hits first count) can.0
few-first route (work.Scan login leg ask) can = omega arith

few-then : (route : Route) (job : Work) (hits : List ℕ) → CanBegin job → length (then_asked route job hits) ≤ most_legs
few-then route (work.Search login legs query small large medium small_element medium_element syntax room) hits can =
    few-records route login legs query syntax (element_shown small small_element medium_element hits) (places_shown small large medium room hits)
    can.0
few-then route (work.Fetch login legs query hits first count syntax element) found can = omega arith
few-then route (work.Scan login leg ask) found can = omega arith

few-by : (route : Route) (job : Work) (found : Result (List ℕ) Diag) → CanBegin job → length (by_hits route job found) ≤ most_legs
few-by route job (Ok hits) can = few-then route job hits can
few-by route job (Err diag) can = omega arith

few-unless : (m : Mark) (asked : List Asked) → length asked ≤ most_legs → length (unless_marked m asked) ≤ most_legs
few-unless mark.Plain asked few = few
few-unless mark.Link asked few = omega arith
few-unless (mark.Silent looks) asked few = omega arith
few-unless mark.Gone asked few = omega arith
few-unless (mark.Full sessions) asked few = omega arith

pub few-then-by : (route : Route) (job : Work) (first : List Answered) → CanBegin job → length (then_asked_by route job first) ≤ most_legs
few-then-by route job first can = few-unless (cause_of route first).mark _ (few-by route job (all_hits route first) can)

-- ---- legs

cond-one : (b : Bool) → cond b 1 0 ≤ 1
cond-one true = omega arith
cond-one false = omega arith

module _ {S : Type 0} where
  leg-one : (leg : LegView S) → (dues_of leg).unused ≤ 1
  leg-one leg =
      let one = one-unused leg.task leg.phase in
      let most = cond-one (not (is_done leg.phase)) in
      omega (arith, one, most)

  unused-length : (legs : List (LegView S)) → (dues_in legs).unused ≤ length legs
  unused-length [] = omega arith
  unused-length (leg ∷ legs) =
      let dues = sum_by-cons (λ (l : LegView S). (dues_of l).unused) leg legs in
      let one = leg-one leg in
      let others = unused-length legs in
      omega (arith, dues, one, others)

  -- legs that are asked so many things owe no more
  asked-few : (legs : List (LegView S)) (asked : List Asked) → map asked_of legs ≡ asked → length asked ≤ most_legs
      → (dues_in legs).unused ≤ most_legs
  asked-few legs asked e few =
      let all : length legs ≡ length asked = sym (length-map legs asked_of) ∙ ap (λ (a : List Asked). length a) e in
      let own = unused-length legs in
      omega (arith, all, own, few)

  unused-parts : (first later : List (LegView S)) → (dues_in (first ++ later)).unused ≡ (dues_in first).unused + (dues_in later).unused
  unused-parts first later = sum_by-append (λ (l : LegView S). (dues_of l).unused) first later

  package-by : (planned : Bool) (route : Route) (view : PackageView S) → CanBegin view.work → map asked_of view.first ≡ first_asked route view.work
      → IsPlanned planned route view → (dues_in (view.first ++ view.later)).unused ≤ most_legs
  package-by false route view can asks later =
      let parts = unused-parts view.first view.later in
      let none : (dues_in view.later).unused ≡ 0 = ap (λ (ls : List (LegView S)). (dues_in ls).unused) later in
      let few = asked-few view.first (first_asked route view.work) asks (few-first route view.work can) in
      omega (arith, parts, none, few)
  package-by true route view can asks later =
      let parts = unused-parts view.first view.later in
      let none = over-unused view.first later.0 in
      let few = asked-few view.later (then_asked_by route view.work (answers_of view.first)) later.1
      (few-then-by route view.work (answers_of view.first) can) in
      omega (arith, parts, none, few)

-- ---- a step

module _ {W S : Type 0} (w : world.Ghosts W) (t : sitting.Ghosts S W) (exact : Bool) (route : Route) (now : ℕ)
    (old new : ConnectionState S) (answer : Stepped) (before behind : Outside S) where
  next-few : (most : ℕ) (next : PackageView S) → IsPackageOf w t route most next → new.in_work ≡ Some next → (dues_on new).unused ≤ most_legs
  next-few most next of e =
      subst (λ (v : Option (PackageView S)). (dues_in (legs_in v)).unused ≤ most_legs) (sym e)
      (package-by next.planned route next of.asks.can_begin of.asks.at_first of.asks.then)

  none-few : dues_on new ≡ record { searches = 0; unused = 0 } → (dues_on new).unused ≤ most_legs
  none-few e = let none = ap (λ (d : Dues). d.unused) e in omega (arith, none)

  left-none : (next : PackageView S) (ended : Option End) → IsLeftBy route next (answering_of old) (answering_of new) ended
      → dues_on new ≡ record { searches = 0; unused = 0 }
  left-none next ended (inl left) = dues-none new left.0
  left-none next ended (inr left) = dues-new new route left.0 left.1

  works-few : (turned_ : Turned) (most : ℕ) (next : PackageView S) → IsPackageOf w t route most next
      → WorksOn route turned_ next (answering_of old) (answering_of new) answer new.end → (dues_on new).unused ≤ most_legs
  works-few turned.Went most next of on = next-few most next of (ap (λ (a : AnsweringState S). a.in_work) on.1)
  works-few turned.NotYet most next of on = next-few most next of (ap (λ (a : AnsweringState S). a.in_work) on.1)
  works-few turned.Memory most next of on = next-few most next of (ap (λ (a : AnsweringState S). a.in_work) on.1)
  works-few turned.Done most next of on =
      none-few (left-none next _ (over-left route next (answering_of old) (answering_of new) answer new.end on).left)

  pub step-few : (end : Option End) (in_work : Option (PackageView S)) → end ≡ None → old.in_work ≡ in_work
      → IsStepFrom w t exact route now end in_work old new answer before behind → (dues_on new).unused ≤ most_legs
  step-few (Some end) in_work e f h = absurd cc
  step-few None None e f h = none-few (ahead-dues route old new f answer h.0)
  step-few None (Some view) e f h = works-few h.turns.turned behind.door.counts.most h.turns.next h.turns.of h.turns.works

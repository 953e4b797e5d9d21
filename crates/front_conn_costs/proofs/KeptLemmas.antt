-- Between steps, and the sums that are kept
use Rattle.std.proofs.Common.{◌≡◌, ◌∙◌, ◌⊎◌, ℕ, ◌+◌, ◌*◌, ◌≤◌, Bool, true, false, inl, inr, List, Option, None, Some, refl, sym, ap, subst, arith}
use Rattle.std.specs.Prelude.{IfSome, IsSome}
use Rattle.std.specs.List.{sum_by}
use Rattle.std.proofs.Math.Nat.{mul-zero}
use Rattle.z_types.specs.declared.marks.End.{End}
use Rattle.z_types.specs.declared.sitting.Sitting as sitting
use Rattle.z_types.specs.declared.world.World as world
use Rattle.route_config.specs.declared.route.PoolNumbers.{PoolNumbers}
use Rattle.route_config.specs.declared.route.Route.{Route}
use Rattle.front_conn.specs.front_session.Sessions.{new_session}
use Rattle.front_conn.specs.front_z.declared.units.Begun.{Begun}
use Rattle.front_conn.specs.front_z.declared.units.Begun.TheVariants as begun
use Rattle.front_conn.specs.leg.declared.answers.Turned.{Turned}
use Rattle.front_conn.specs.leg.declared.answers.Turned.TheVariants as turned
use Rattle.front_conn.specs.package.steps.Packages.{PackageView, all_accounts}
use Rattle.front_conn.specs.declared.stepped.Stepped.{Stepped}
use Rattle.front_conn.specs.declared.stepped.Stepped.TheVariants.{Idle, NotYet, Went, Memory}
use Rattle.front_conn.specs.declared.totals.Total.{Total}
use Rattle.front_conn.specs.steps.Answering.{AnsweringState, AreMade, IsKeptBehind, IsKeptBehindHead, Outside, WorksOn, totals_of_all}
use Rattle.front_conn.specs.steps.Feeding.{without_work}
use Rattle.front_conn.specs.steps.States.{ConnectionState, nothing_yet}
use Rattle.front_conn.specs.steps.Steps.{EndsByRest, GoesAhead, IsStepFrom, TakesHead, TakesUnit, answering_of}
use Rattle.front_conn.specs.steps.Totals.{totals_for}
use Rattle.front_conn_costs.specs.steps.Conns.{AreTotalsOf, HasTotals, RestsIfEnded, counted_on, in_total, marks_of, met_on}
use Rattle.front_conn_costs.specs.steps.Laws.{IsCostless, IsSummed}
use Rattle.front_conn_costs.specs.steps.Numbers.{Caused, Number, weight}
use Rattle.front_conn.specs.front_sru.declared.begun.Begun as sru_begun
use Rattle.front_conn.specs.front_sru.declared.begun.Begun.TheVariants as get
use Rattle.front_conn_costs.proofs.OverLemmas.{IsLeftBy, went-left}
use Rattle.front_conn_costs.proofs.TotalLemmas.{after-classes, classes_of, made-classes, none-made}

-- ---- sums that are kept

if-any : {X P : Type 0} (thing : Option X) → P → IfSome thing (λ x. P)
if-any None p = tt
if-any (Some x) p = p

module _ {S : Type 0} (route : Route) where
  -- there is one for each class
  has-all : (state : ConnectionState S) → AreTotalsOf route state.totals → HasTotals route state
  has-all state all = record { made = made-classes route state.totals all; in_work = if-any state.in_work all }

  -- there are such, or none yet
  has-rest : (state : ConnectionState S) (totals : List Total) → state.totals ≡ totals → state.in_work ≡ None
      → AreTotalsOf route (totals_for route totals) → HasTotals route state
  has-rest state totals same rests made = record {
    made = ap (λ (ts : List Total). classes_of (totals_for route ts)) same ∙ made;
    in_work = subst (λ (i : Option (PackageView S)). IfSome i (λ v. AreTotalsOf route state.totals)) (sym rests) tt;
  }

  module _ (old new : ConnectionState S) (has : HasTotals route old) where
    made-all : new.totals ≡ totals_for route old.totals → HasTotals route new
    made-all e = has-all new (ap classes_of e ∙ has.made)

    begun-has : (answer : Begun) → IsKeptBehind route (answering_of old) (answering_of new) new.end answer → HasTotals route new
    begun-has (begun.Write m end) h = made-all h.3
    begun-has (begun.Work job) h = made-all h.3
    begun-has begun.Memory h = absurd h

    lost-has : new.in_work ≡ None → AreMade route old.totals new.totals → HasTotals route new
    lost-has none (inl same) = has-rest new old.totals same none has.made
    lost-has none (inr made) = made-all made

    head-has : (answer : sru_begun.Begun) → IsKeptBehindHead route (answering_of old) (answering_of new) new.end answer → HasTotals route new
    head-has (get.Write m end) h = made-all h.3
    head-has (get.Work job) h = made-all h.3
    head-has get.Memory h = absurd h

    went-has : old.in_work ≡ None → TakesUnit route old new ⊎ TakesHead route old new ⊎ EndsByRest old new → HasTotals route new
    went-has rests (inl h) = begun-has h.begun.answer h.begun.kept
    went-has rests (inr (inl h)) = head-has h.taken.answer h.taken.kept
    went-has rests (inr (inr h)) = has-rest new old.totals h.totals (h.in_work ∙ rests) has.made

    ahead-has : (answer : Stepped) → old.in_work ≡ None → GoesAhead route old new answer → HasTotals route new
    ahead-has Idle rests h = subst (λ (s : ConnectionState S). HasTotals route s) (sym h.1) has
    ahead-has NotYet rests h = absurd h
    ahead-has Went rests h = went-has rests h.2
    ahead-has Memory rests h = lost-has h.unbegun.in_work h.unbegun.totals

    on-has : (next : PackageView S) → AreTotalsOf route old.totals
        → answering_of new ≡ record (answering_of old) { in_work = Some next } → HasTotals route new
    on-has next all same = has-all new (ap (λ (a : AnsweringState S). classes_of a.totals) same ∙ all)

    works-has : (turned_ : Turned) (next : PackageView S) (answer : Stepped) → AreTotalsOf route old.totals
        → WorksOn route turned_ next (answering_of old) (answering_of new) answer new.end → HasTotals route new
    works-has turned.Went next answer all h = on-has next all h.1
    works-has turned.NotYet next answer all h = on-has next all h.1
    works-has turned.Memory next answer all h = on-has next all h.1
    works-has turned.Done next answer all h =
        has-all new (ap classes_of h.ends.totals ∙ after-classes old.totals (all_accounts next) ∙ all)

  pub step-has : {W : Type 0} (w : world.Ghosts W) (t : sitting.Ghosts S W) (exact : Bool) (now : ℕ) (old new : ConnectionState S)
      (answer : Stepped) (before behind : Outside S) (end : Option End) (in_work : Option (PackageView S)) → old.end ≡ end
      → old.in_work ≡ in_work → HasTotals route old → IsStepFrom w t exact route now end in_work old new answer before behind
      → HasTotals route new
  step-has w t exact now old new answer before behind (Some end) in_work e f has h =
      subst (λ (s : ConnectionState S). HasTotals route s) (sym h.1) has
  step-has w t exact now old new answer before behind None None e f has h = ahead-has old new has answer f h.0
  step-has w t exact now old new answer before behind None (Some view) e f has h =
      works-has old new has h.turns.turned h.turns.next answer
      (subst (λ (i : Option (PackageView S)). IfSome i (λ v. AreTotalsOf route old.totals)) f has.in_work) h.turns.works

-- ---- a connection that has ended rests

ended-none : {X : Type 0} (thing : Option X) → thing ≡ None → IsSome thing → ⊥
ended-none None e some = let wrong : false ≡ true = some in absurd cc
ended-none (Some x) e some = absurd cc

module _ {S : Type 0} (route : Route) (old new : ConnectionState S) where
  begun-rests : (answer : Begun) → IsKeptBehind route (answering_of old) (answering_of new) new.end answer → RestsIfEnded new
  begun-rests (begun.Write m end) h = λ ended. h.2
  begun-rests (begun.Work job) h = λ ended. absurd (ended-none new.end h.0 ended)
  begun-rests begun.Memory h = absurd h

  head-rests : (answer : sru_begun.Begun) → IsKeptBehindHead route (answering_of old) (answering_of new) new.end answer → RestsIfEnded new
  head-rests (get.Write m end) h = λ ended. h.2
  head-rests (get.Work job) h = λ ended. absurd (ended-none new.end h.0 ended)
  head-rests get.Memory h = absurd h

  went-rests : old.in_work ≡ None → TakesUnit route old new ⊎ TakesHead route old new ⊎ EndsByRest old new → RestsIfEnded new
  went-rests rests (inl h) = begun-rests h.begun.answer h.begun.kept
  went-rests rests (inr (inl h)) = head-rests h.taken.answer h.taken.kept
  went-rests rests (inr (inr h)) = λ ended. h.in_work ∙ rests

  ahead-rests : (answer : Stepped) → old.in_work ≡ None → GoesAhead route old new answer → RestsIfEnded new
  ahead-rests Idle rests h = λ ended. ap (λ (s : ConnectionState S). s.in_work) h.1 ∙ rests
  ahead-rests NotYet rests h = absurd h
  ahead-rests Went rests h = went-rests rests h.2
  ahead-rests Memory rests h = λ ended. h.unbegun.in_work

  left-rests : (next : PackageView S) → IsLeftBy route next (answering_of old) (answering_of new) new.end → RestsIfEnded new
  left-rests next (inl left) = λ ended. left.0
  left-rests next (inr left) = λ ended. absurd (ended-none new.end left.3 ended)

  -- the turn of a request in work ends nothing while it is in work, where memory could be had
  turn-rests : (turned_ : Turned) (next : PackageView S) (answer : Stepped) → (answer ≡ Memory → ⊥)
      → WorksOn route turned_ next (answering_of old) (answering_of new) answer new.end → RestsIfEnded new
  turn-rests turned.Went next answer has h = λ ended. absurd (ended-none new.end h.2 ended)
  turn-rests turned.NotYet next answer has h = λ ended. absurd (ended-none new.end h.2 ended)
  turn-rests turned.Memory next answer has h = absurd (has h.0)
  turn-rests turned.Done next answer has h =
      left-rests next (went-left route next (answering_of old) (answering_of new) answer new.end has h).left

  pub step-rests : {W : Type 0} (w : world.Ghosts W) (t : sitting.Ghosts S W) (exact : Bool) (now : ℕ) (answer : Stepped)
      (before behind : Outside S) (end : Option End) (in_work : Option (PackageView S)) → old.end ≡ end → old.in_work ≡ in_work
      → (answer ≡ Memory → ⊥) → RestsIfEnded old → IsStepFrom w t exact route now end in_work old new answer before behind → RestsIfEnded new
  step-rests w t exact now answer before behind (Some end) in_work e f has rests h =
      subst (λ (s : ConnectionState S). RestsIfEnded s) (sym h.1) rests
  step-rests w t exact now answer before behind None None e f has rests h = ahead-rests answer f h.0
  step-rests w t exact now answer before behind None (Some view) e f has rests h = turn-rests h.turns.turned h.turns.next answer has h.turns.works

-- ---- between steps

no-more : (p l : ℕ) → p + 0 ≤ p + l
no-more p l = omega arith

module _ {S : Type 0} where
  pub starts : (route : Route) → IsCostless route (nothing_yet {S = S} new_session)
  starts route = record {
    rests = λ ended. refl;
    totals = record { made = none-made route; in_work = tt };
    counted = λ number. refl;
    met = λ kind. ap (λ (n : ℕ). n + 0) (mul-zero (weight route.pool kind));
  }

  pub leaves : (pool : PoolNumbers) (kind : Caused) (state : ConnectionState S) → met_on pool kind (without_work state) ≤ met_on pool kind state
  leaves pool kind state = no-more (weight pool kind * marks_of kind state.marks) _

  pub marks-met : (pool : PoolNumbers) (kind : Caused) (state : ConnectionState S)
      → weight pool kind * marks_of kind state.marks ≤ met_on pool kind state
  marks-met pool kind state = omega arith

  left-same : (state : ConnectionState S) → state.in_work ≡ None → without_work state ≡ state
  left-same state rests =
      ap (λ (v : Option (PackageView S)). record state { in_work = None; totals = totals_of_all v state.totals }) rests
      ∙ ap (λ (v : Option (PackageView S)). record state { in_work = v }) (sym rests)

  pub summed : (state : ConnectionState S) → state.in_work ≡ None → IsSummed state
  summed state rests = record {
    counted = λ number. ap (counted_on number) (sym (left-same state rests)) ∙ counted-left number;
    same = left-same state rests;
  }
    where
      counted-left : (number : Number) → counted_on number (without_work state) ≡ sum_by (in_total number) state.totals
      counted-left number =
          ap (λ (v : Option (PackageView S)). sum_by (in_total number) (totals_of_all v state.totals) + 0) rests
          ∙ omega arith

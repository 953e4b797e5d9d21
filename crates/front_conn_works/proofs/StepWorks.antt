-- What a step begins, by what it does.
use Rattle.std.proofs.Common.{◌≡◌, ◌≢◌, ◌⊎◌, ℕ, List, [], ◌++◌, Option, Some, None, refl, sym, ap, ◌∙◌, subst, inl, inr}
use Rattle.z_types.specs.declared.marks.End.{End}
use Rattle.z_types.specs.declared.sitting.Sitting as sitting
use Rattle.z_types.specs.declared.work.Work.{Work}
use Rattle.z_types.specs.declared.world.World as world
use Rattle.route_config.specs.declared.route.Route.{Route}
use Rattle.front_conn.specs.gateway_rules.Answers as kind
use Rattle.front_conn.specs.gateway_rules.Answers.{kind_of}
use Rattle.front_conn.specs.gateway_rules.Course.{octets_of}
use Rattle.front_conn.specs.gateway_rules.Fair.{IsFair}
use Rattle.front_conn.specs.package.steps.Packages.{PackageView}
use Rattle.front_conn.specs.declared.stepped.Stepped.{Stepped}
use Rattle.front_conn.specs.declared.stepped.Stepped.TheVariants.{Idle, NotYet, Went, Memory}
use Rattle.front_conn.specs.steps.Answering.{Outside}
use Rattle.front_conn.specs.steps.States.{ConnectionState, IsStateOf, Rests, StandsOrEnded}
use Rattle.front_conn.specs.steps.Steps.{EndsAtRest, EndsByRest, GoesAhead, IsStepped, KeepsState, IsStepFrom, TakesHead, TakesUnit}
use Rattle.front_conn.proofs.EndLemmas.{none-at_0}
use Rattle.front_conn.proofs.StateLemmas.{rests-of}
use Rattle.front_conn_works.specs.steps.Begun.{HasBegun, begun_by}
use Rattle.front_conn_works.specs.steps.Laws.{LacksAndBeginsNone, StepsBegin}
use Rattle.front_conn_works.proofs.BegunLemmas.{begins-none, going-of, nothing-more, of-over}
use Rattle.front_conn_works.proofs.RestWorks.{rest-begins}
use Rattle.front_conn_works.proofs.TurnWorks.{turn-begins}
use Rattle.front_conn_works.proofs.UnitWorks.{unit-begins}

module _ {W S : Type 0} (w : world.Ghosts W) (route : Route) (fed written : List ℕ) (old new : ConnectionState S) (works : List Work)
    (other : kind_of fed ≢ kind.letter) where
  -- a connection that stays as it was
  same-begins : new ≡ old → HasBegun w route fed old works → HasBegun w route fed new (works ++ begun_by old.in_work new.in_work)
  same-begins same h =
      nothing-more w route fed new works (begun_by old.in_work new.in_work)
      (ap (λ (s : ConnectionState S). begun_by old.in_work s.in_work) same ∙ begins-none old.in_work)
      (subst (λ (s : ConnectionState S). HasBegun w route fed s works) (sym same) h)

  -- no head comes behind no letter
  no-head : Rests w route fed written old → TakesHead route old new → ⊥
  no-head rb t =
      let none = none-at_0 rb.units rb.answered.has_run.each (sym rb.offset ∙ t.at_start) in
      other (ap kind_of (rb.spelled ∙ ap (λ units. octets_of units ++ old.left) none) ∙ t.first)

  -- where it has ended without a unit
  ended-by : (end : Option End) → new.end ≡ end → EndsAtRest old.has_ended end → Rests w route fed written old → EndsByRest old new
      → StandsOrEnded w route fed written new end new.in_work → HasBegun w route fed old works → old.end ≡ None
      → HasBegun w route fed new works
  ended-by None is how rb t state h goes = absurd how
  ended-by (Some end) is how rb t state h goes =
      of-over w route fed new works end is (λ more may.
      rest-begins w route fed written old works rb (going-of w route fed old works goes h) more new.marks (written ++ new.out) end t.marks other
      (state more may))

  rests-begins : old.end ≡ None → old.in_work ≡ None → IsStateOf w route fed written old → IsStateOf w route fed written new
      → HasBegun w route fed old works → TakesUnit route old new ⊎ TakesHead route old new ⊎ EndsByRest old new
      → HasBegun w route fed new (works ++ begun_by old.in_work new.in_work)
  rests-begins goes rests state then h (inl t) =
      unit-begins w route fed written old new works (rests-of w route fed written old goes rests state) (going-of w route fed old works goes h)
      other rests t
  rests-begins goes rests state then h (inr (inl t)) = absurd (no-head (rests-of w route fed written old goes rests state) t)
  rests-begins goes rests state then h (inr (inr t)) =
      nothing-more w route fed new works (begun_by old.in_work new.in_work)
      (ap (λ (i : Option (PackageView S)). begun_by old.in_work i) t.in_work ∙ begins-none old.in_work)
      (ended-by new.end refl t.ended (rests-of w route fed written old goes rests state) t then h goes)

  ahead-begins : (answer : Stepped) → answer ≢ Memory → old.end ≡ None → old.in_work ≡ None → IsStateOf w route fed written old
      → IsStateOf w route fed written new → HasBegun w route fed old works → GoesAhead route old new answer
      → HasBegun w route fed new (works ++ begun_by old.in_work new.in_work)
  ahead-begins Idle had goes rests state then h ahead = same-begins ahead.1 h
  ahead-begins NotYet had goes rests state then h ahead = absurd ahead
  ahead-begins Went had goes rests state then h ahead = rests-begins goes rests state then h ahead.2
  ahead-begins Memory had goes rests state then h ahead = absurd (had refl)

module _ {W S : Type 0} (w : world.Ghosts W) (t : sitting.Ghosts S W) (exact : _) (route : Route) (now : ℕ) (fed written : List ℕ)
    (old new : ConnectionState S) (before behind : Outside S) (works : List Work) (other : kind_of fed ≢ kind.letter) where
  step-from : (answer : Stepped) (end : Option End) (in_work : Option (PackageView S)) → answer ≢ Memory → old.end ≡ end
      → old.in_work ≡ in_work → IsStateOf w route fed written old → IsStateOf w route fed written new → HasBegun w route fed old works
      → IsStepFrom w t exact route now end in_work old new answer before behind
      → HasBegun w route fed new (works ++ begun_by old.in_work new.in_work)
  step-from answer (Some end) in_work had is work state then h s = same-begins w route fed written old new works other s.1 h
  step-from answer None None had is work state then h s =
      ahead-begins w route fed written old new works other answer had is work state then h s.0
  step-from answer None (Some view) had is work state then h s =
      turn-begins w t exact route now fed written old new answer before behind works view had other is work state
      (going-of w route fed old works is h) s

  pub had-begins : (answer : Stepped) → answer ≢ Memory → IsFair w route → IsStateOf w route fed written old
      → IsStepped w t exact route now old new answer before behind → KeepsState w route old new → HasBegun w route fed old works
      → HasBegun w route fed new (works ++ begun_by old.in_work new.in_work)
  had-begins answer had fair state s keeps h =
      step-from answer old.end old.in_work had refl refl state (keeps fair fed written state) h s

pub step-begins : {W S : Type 0} (w : world.Ghosts W) (t : sitting.Ghosts S W) → StepsBegin w t
step-begins w t exact route now fed written old new Idle before behind works fair other state s keeps h =
    had-begins w t exact route now fed written old new before behind works other Idle (λ e. absurd cc) fair state s keeps h
step-begins w t exact route now fed written old new NotYet before behind works fair other state s keeps h =
    had-begins w t exact route now fed written old new before behind works other NotYet (λ e. absurd cc) fair state s keeps h
step-begins w t exact route now fed written old new Went before behind works fair other state s keeps h =
    had-begins w t exact route now fed written old new before behind works other Went (λ e. absurd cc) fair state s keeps h
step-begins w t exact route now fed written old new Memory before behind works fair other state s keeps h = tt

-- ---- a step without memory

lacking-from : {W S : Type 0} (w : world.Ghosts W) (t : sitting.Ghosts S W) (exact : _) (route : Route) (now : ℕ)
    (old new : ConnectionState S) (before behind : Outside S) (end : Option End) (in_work : Option (PackageView S))
    → old.in_work ≡ in_work → IsStepFrom w t exact route now end in_work old new Memory before behind
    → begun_by old.in_work new.in_work ≡ []
lacking-from w t exact route now old new before behind (Some end) in_work work s = let wrong = s.0 in absurd cc
lacking-from {S = S} w t exact route now old new before behind None None work s =
    ap (λ i. begun_by i new.in_work) work ∙ ap (λ (i : Option (PackageView S)). begun_by None i) s.0.unbegun.in_work
lacking-from w t exact route now old new before behind None (Some view) work s = ap (λ i. begun_by i new.in_work) work

pub lacking-begins : {W S : Type 0} (w : world.Ghosts W) (t : sitting.Ghosts S W) → LacksAndBeginsNone w t
lacking-begins w t exact route now old new before behind s =
    lacking-from w t exact route now old new before behind old.end old.in_work refl s

-- What is asked then by what the first legs of a Search said
use Rattle.std.proofs.Common.{◌≡◌, ◌∙◌, ℕ, true, false, List, [], ◌∷◌, ◌++◌, length, map, Option, None, Some, IfSome, Ok, is_some, ap, sym, refl, subst, option_and_then, option_map}
use Rattle.std.specs.List.{cons_option}
use Rattle.std.specs.Option.{option_or}
use Rattle.std.proofs.lemmas.List.{length-map}
use Rattle.std.proofs.lemmas.List.Elements.{All-append, All-head, All-tail}
use Rattle.z_types.specs.declared.marks.Mark.{Mark}
use Rattle.z_types.specs.declared.marks.Mark.TheVariants as mark
use Rattle.z_types.specs.declared.outcome.Outcome.{Outcome}
use Rattle.z_types.specs.declared.outcome.Outcome.TheVariants as outcome
use Rattle.z_types.specs.declared.work.Work.{Work}
use Rattle.z_types.specs.declared.work.Work.TheVariants as work
use Rattle.route_config.specs.declared.route.Route.{Route}
use Rattle.leg.specs.LegView.{LegView}
use Rattle.leg.specs.Phases.{answered}
use Rattle.leg.specs.declared.answers.LegAnswer.{LegAnswer}
use Rattle.leg.specs.declared.answers.LegAnswer.TheVariants as answer
use Rattle.leg.specs.declared.tasks.Task.{Task}
use Rattle.package_rules.specs.Asked.{Asked, first_asked, hits_asked}
use Rattle.package_rules.specs.Planned.{legs_named, unless_marked}
use Rattle.package_rules.specs.Said.{all_hits, cause_of, class_name, entries_said, finished, mark_of, outcome_said, scan_said}
use Rattle.gateway_rules.specs.Marks.{Cause}
use Rattle.gateway_rules.specs.Outcomes.{under_mark}
use Rattle.package_rules.proofs.AllOrFirst.{length-all_or_first}
use Rattle.gateway_rules.specs.Targets.{all_or_first}
use Rattle.package.specs.steps.Ends.{cause_by, first_mark, hits_in, mark_or}
use Rattle.package.specs.steps.Kinds.{IsSearch}
use Rattle.package.specs.steps.Packages.{AreDone, HasFitting, answers_of, asked_of}
use Rattle.package.proofs.CauseLemmas.{answers-append, cause_is}
use Rattle.package.proofs.SaidLemmas.{hits_are, marks-append}

-- ---- marks

-- a mark that is none or other than Plain
abbrev IsOther : Option (Mark × ℕ) → Type 0
IsOther None = Unit {0}
IsOther (Some (mark.Plain, leg)) = ⊥
IsOther (Some (m, leg)) = Unit {0}

other_by : (task : Task) (said : Option LegAnswer) (leg : ℕ) (later : Option (Mark × ℕ)) → HasFitting task said → IsOther later
    → IsOther (mark_or (option_and_then mark_of said) leg later)
other_by task None leg later fits other = other
other_by task (Some (answer.Marked mark.Plain)) leg later fits other = absurd fits
other_by task (Some (answer.Marked mark.Link)) leg later fits other = tt
other_by task (Some (answer.Marked (mark.Silent looks))) leg later fits other = tt
other_by task (Some (answer.Marked mark.Gone)) leg later fits other = tt
other_by task (Some (answer.Marked (mark.Full sessions))) leg later fits other = tt
other_by task (Some (answer.Hits hits)) leg later fits other = other
other_by task (Some (answer.Refused diag)) leg later fits other = other
other_by task (Some (answer.Items items)) leg later fits other = other
other_by task (Some (answer.Broken items diag)) leg later fits other = other
other_by task (Some (answer.Scanned entries)) leg later fits other = other

nothing_by : (route : Route) (m : Option (Mark × ℕ)) (then : List Asked) → IsOther m → is_some m ≡ true
    → unless_marked (cause_by route m).mark then ≡ []
nothing_by route None then other some = absurd cc
nothing_by route (Some (mark.Plain, leg)) then other some = absurd other
nothing_by route (Some (mark.Link, leg)) then other some = refl
nothing_by route (Some (mark.Silent looks, leg)) then other some = refl
nothing_by route (Some (mark.Gone, leg)) then other some = refl
nothing_by route (Some (mark.Full sessions, leg)) then other some = refl

plain_by : (route : Route) (m : Option (Mark × ℕ)) → is_some m ≡ false → (cause_by route m).mark ≡ mark.Plain
plain_by route None none = refl
plain_by route (Some it) none = absurd cc

module _ {S : Type 0} where
  first_other : (legs : List (LegView S)) → AreDone legs → IsOther (first_mark legs)
  first_other [] done = tt
  first_other (leg ∷ legs) done =
      other_by leg.task (answered leg.phase) leg.leg (first_mark legs)
      (All-head (λ (l : LegView S). HasFitting l.task (answered l.phase)) leg legs done)
      (first_other legs (All-tail (λ (l : LegView S). HasFitting l.task (answered l.phase)) leg legs done))

  -- nothing is asked then where one is marked
  pub marked_then : (route : Route) (legs : List (LegView S)) (then : List Asked) → AreDone legs → is_some (first_mark legs) ≡ true
      → unless_marked (cause_of route (answers_of legs)).mark then ≡ []
  marked_then route legs then done some =
      ap (λ c. unless_marked c.mark then) (cause_is route legs) ∙ nothing_by route (first_mark legs) then (first_other legs done) some

  -- where none is, the cause is Plain
  pub unmarked_is : (route : Route) (legs : List (LegView S)) → is_some (first_mark legs) ≡ false
      → (cause_of route (answers_of legs)).mark ≡ mark.Plain
  unmarked_is route legs none = ap (λ c. c.mark) (cause_is route legs) ∙ plain_by route (first_mark legs) none

  -- ---- hits

  -- the legs of a Search have one number of hits each
  pub hits_each : (route : Route) (asked : Work) (legs : List (LegView S)) (hits : List ℕ) → IsSearch asked → AreDone legs
      → map asked_of legs ≡ first_asked route asked → all_hits route (answers_of legs) ≡ Ok hits
      → length hits ≡ length (legs_named asked)
  hits_each route (work.Search login named query small large medium small_element medium_element syntax room) legs hits kind done asks found =
      length-all_or_first (map (hits_in route) legs) hits (ap all_or_first (hits_are route legs done) ∙ found)
      ∙ length-map legs (hits_in route) ∙ sym (length-map legs asked_of) ∙ ap (λ (xs : List Asked). length xs) asks
      ∙ length-map named (hits_asked route login query)
  hits_each route (work.Fetch login named query had first count syntax element) legs hits kind done asks found = absurd kind
  hits_each route (work.Scan login leg ask) legs hits kind done asks found = absurd kind

-- ---- what comes of a work by a mark

under_other : (m : Mark) (leg : ℕ) (class : List ℕ) (plainly : Outcome) → IsOther (Some (m, leg)) → under_mark m class plainly ≡ outcome.Marked m class
under_other mark.Plain leg class plainly other = absurd other
under_other mark.Link leg class plainly other = refl
under_other (mark.Silent looks) leg class plainly other = refl
under_other mark.Gone leg class plainly other = refl
under_other (mark.Full sessions) leg class plainly other = refl

none_of : (a b : Option (Mark × ℕ)) → option_or a b ≡ None → a ≡ None
none_of None b none = refl
none_of (Some x) b none = absurd cc

module _ {S : Type 0} (route : Route) (asked : Work) (first later : List (LegView S)) where
  cause_among : cause_of route (answers_of first ++ answers_of later) ≡ cause_by route (first_mark (first ++ later))
  cause_among = ap (cause_of route) (sym (answers-append first later)) ∙ cause_is route (first ++ later)

  -- the first mark decides
  pub finished_marked : (m : Mark) (leg : ℕ) → AreDone first → AreDone later → first_mark (first ++ later) ≡ Some (m, leg)
      → finished route asked (answers_of first) (answers_of later) ≡ outcome.Marked m (class_name route leg)
  finished_marked m leg first_done later_done is =
      let plainly : Outcome = outcome_said route asked (answers_of first) (answers_of later) in
      let all : AreDone (first ++ later) =
      All-append (λ (l : LegView S). HasFitting l.task (answered l.phase)) first later first_done later_done in
      ap (λ (c : Cause). under_mark c.mark c.class plainly) (cause_among ∙ ap (cause_by route) is)
      ∙ under_other m leg (class_name route leg) plainly (subst IsOther is (first_other (first ++ later) all))

  -- or what the legs said
  pub finished_unmarked : first_mark (first ++ later) ≡ None
      → finished route asked (answers_of first) (answers_of later) ≡ outcome_said route asked (answers_of first) (answers_of later)
  finished_unmarked none =
      ap (λ (c : Cause). under_mark c.mark c.class (outcome_said route asked (answers_of first) (answers_of later)))
      (cause_among ∙ ap (cause_by route) none)

  pub first_unmarked : first_mark (first ++ later) ≡ None → first_mark first ≡ None
  first_unmarked none = none_of (first_mark first) (first_mark later) (sym (marks-append first later) ∙ none)

-- ---- a scan

scan_by : (leg : ℕ) (task : Task) (result : Outcome) (said : Option LegAnswer) → HasFitting task said
    → IfSome said (λ a. result ≡ entries_said a)
    → result ≡ scan_said (cons_option (option_map (λ (a : LegAnswer). record { leg = leg; answer = a }) said) [])
scan_by leg task result None fits is = absurd fits
scan_by leg task result (Some said) fits is = is

pub scan_is : {S : Type 0} (leg : LegView S) (result : Outcome) → HasFitting leg.task (answered leg.phase)
    → IfSome (answered leg.phase) (λ said. result ≡ entries_said said) → result ≡ scan_said (answers_of (leg ∷ []))
scan_is leg result fits is = scan_by leg.leg leg.task result (answered leg.phase) fits is

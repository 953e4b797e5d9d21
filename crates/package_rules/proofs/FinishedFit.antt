-- What comes of a work by its legs' answers fits the work
use Rattle.std.proofs.Common.{◌≡◌, ◌≢◌, ◌≤◌, ◌∙◌, Bool, true, false, ℕ, List, [], ◌∷◌, ◌++◌, length, map, Option, Result, Ok, Err, cond, nat_lt, refl, arith}
use Rattle.std.specs.Prelude.{◌==◌}
use Rattle.std.proofs.lemmas.Bool.{ltb-false}
use Rattle.std.proofs.lemmas.List.{length-map}
use Rattle.z_types.specs.Bib1.{bib1}
use Rattle.z_types.specs.MergedOrder.{total}
use Rattle.z_types.specs.Shown.{shown}
use Rattle.z_types.specs.declared.conditions.Condition.TheVariants.{TooManyRecordsRetrieved}
use Rattle.z_types.specs.declared.diagnostic.Diag.{Diag}
use Rattle.z_types.specs.declared.marks.Mark.{Mark}
use Rattle.z_types.specs.declared.marks.Mark.TheVariants as mark
use Rattle.z_types.specs.declared.outcome.Fetched.TheVariants as fetched
use Rattle.z_types.specs.declared.outcome.Outcome.{Outcome}
use Rattle.z_types.specs.declared.outcome.Outcome.TheVariants as outcome
use Rattle.z_types.specs.declared.query.RpnQuery.{RpnQuery}
use Rattle.z_types.specs.declared.records.NamedRecord.{NamedRecord}
use Rattle.z_types.specs.declared.scan.ScanAsk.{ScanAsk}
use Rattle.z_types.specs.declared.work.Work.{Work}
use Rattle.z_types.specs.declared.work.Work.TheVariants as work
use Rattle.z_types.specs.declared.world.World as world
use Rattle.route_config.specs.declared.route.Route.{Route}
use Rattle.gateway_rules.specs.Given.{returned}
use Rattle.gateway_rules.specs.Marks.{Cause}
use Rattle.gateway_rules.specs.Outcomes.{found, places_from, under_mark, whole}
use Rattle.gateway_rules.specs.Targets.{hidden}
use Rattle.gateway_rules.specs.Works.{FitsWork}
use Rattle.leg.specs.Right.{AnswerFits}
use Rattle.leg.specs.declared.answers.LegAnswer.{LegAnswer}
use Rattle.leg.specs.declared.answers.LegAnswer.TheVariants as answer
use Rattle.leg.specs.declared.tasks.Task.TheVariants.{Scan}
use Rattle.package_rules.specs.declared.answered.Answered.{Answered}
use Rattle.package_rules.specs.Asked.{Asked, hits_asked}
use Rattle.package_rules.specs.Said.{all_hits, cause_of, entries_said, fetches_of, hides, hits_said, outcome_said, records_said, said_at}
use Rattle.package_rules.specs.Truth.{AreAnswered, AreAnswersTo, FinishedFits}
use Rattle.package_rules.proofs.AllOrFirst.{length-all_or_first}
use Rattle.package_rules.proofs.FinishedIs.{both_unmarked, search_said}
use Rattle.package_rules.proofs.Rooms.{length-records}
use Rattle.package_rules.proofs.Unmarked.{AreUnmarked, IsUnmarked}

-- ---- marks

-- a mark other than Plain fits each work
marked_fits : (asked : Work) (m : Mark) (class : List ℕ) → m ≢ mark.Plain → FitsWork asked (outcome.Marked m class)
marked_fits (work.Search login legs query small large medium small_element medium_element syntax room) m class other = other
marked_fits (work.Fetch login legs query hits first count syntax element) m class other = other
marked_fits (work.Scan login leg ask) m class other = other

under_fits : (asked : Work) (m : Mark) (class : List ℕ) (said : Outcome) → (m ≡ mark.Plain → FitsWork asked said)
    → FitsWork asked (under_mark m class said)
under_fits asked mark.Plain class said h = h refl
under_fits asked mark.Link class said h = marked_fits asked mark.Link class (λ e. absurd cc)
under_fits asked (mark.Silent looks) class said h = marked_fits asked (mark.Silent looks) class (λ e. absurd cc)
under_fits asked mark.Gone class said h = marked_fits asked mark.Gone class (λ e. absurd cc)
under_fits asked (mark.Full sessions) class said h = marked_fits asked (mark.Full sessions) class (λ e. absurd cc)

-- ---- records

-- `count` places give at most `count` records
whole_few : (route : Route) (legs : ℕ) (hits : List ℕ) (first count : ℕ) (answers : List Answered)
    (said : Result (List NamedRecord) Diag)
    → records_said route (fetches_of legs (places_from hits first count) answers) (places_from hits first count) ≡ said
    → returned (whole said) ≤ count
whole_few route legs hits first count answers (Ok records) is =
    length-records (said_at route (fetches_of legs (places_from hits first count) answers)) hits first count records is
whole_few route legs hits first count answers (Err diag) is = omega arith

-- what is shown is no more than there is room for
shown_few : (route : Route) (legs room count : ℕ) (hits : List ℕ) (later : List Answered) (none over : Bool) → nat_lt room count ≡ over
    → returned (cond none fetched.None (cond over (fetched.Whole (bib1 TooManyRecordsRetrieved []))
    (whole (records_said route (fetches_of legs (cond over [] (places_from hits 1 count)) later)
    (cond over [] (places_from hits 1 count))))))
    ≤ room
shown_few route legs room count hits later true over is = omega arith
shown_few route legs room count hits later false true is = omega arith
shown_few route legs room count hits later false false is =
    omega (arith, ltb-false room count is, whole_few route legs hits 1 count later _ refl)

-- ---- hits

module _ {W : Type 0} (w : world.Ghosts W) (route : Route) where
  -- each that was asked answered
  as_many : (asked : List Asked) (answers : List Answered) → AreAnswersTo w route asked answers → length answers ≡ length asked
  as_many [] [] all = refl
  as_many [] (a ∷ answers) all = absurd all
  as_many (ask ∷ asked) [] all = absurd all
  as_many (ask ∷ asked) (a ∷ answers) all = omega (arith, as_many asked answers all.1)

  hits_many : (login : Option (List ℕ)) (legs : List ℕ) (query : RpnQuery) (first : List Answered) (hits : List ℕ)
      → AreAnswersTo w route (map (hits_asked route login query) legs) first → all_hits route first ≡ Ok hits → length hits ≡ length legs
  hits_many login legs query first hits all is =
      length-all_or_first (map (λ (a : Answered). hidden (hides route a.leg) (hits_said a.answer)) first) hits is
      ∙ length-map first (λ (a : Answered). hidden (hides route a.leg) (hits_said a.answer))
      ∙ as_many (map (hits_asked route login query) legs) first all ∙ length-map legs (hits_asked route login query)

  search_fits : (login : Option (List ℕ)) (legs : List ℕ) (query : RpnQuery) (small large medium : ℕ)
      (small_element medium_element syntax : Option (List ℕ)) (room : ℕ) (first later : List Answered) (hits : Result (List ℕ) Diag)
      → AreAnswersTo w route (map (hits_asked route login query) legs) first → all_hits route first ≡ hits
      → FitsWork (work.Search login legs query small large medium small_element medium_element syntax room)
      (found hits (search_said route legs small large medium room later))
  search_fits login legs query small large medium small_element medium_element syntax room first later (Err diag) all is = tt
  search_fits login legs query small large medium small_element medium_element syntax room first later (Ok hits) all is =
      let count : ℕ = shown (total hits) small large medium in (
        hits_many login legs query first hits all is,
        shown_few route (length legs) room count hits later (count == 0) (nat_lt room count) refl,
      )

  -- ---- each work

  scan_fits : (login : Option (List ℕ)) (leg : ℕ) (ask : ScanAsk) (said : LegAnswer) → AnswerFits (Scan ask) said → IsUnmarked said
      → FitsWork (work.Scan login leg ask) (entries_said said)
  scan_fits login leg ask (answer.Scanned entries) fits unmarked = tt
  scan_fits login leg ask (answer.Refused diag) fits unmarked = tt
  scan_fits login leg ask (answer.Hits hits) fits unmarked = absurd fits
  scan_fits login leg ask (answer.Items items) fits unmarked = absurd fits
  scan_fits login leg ask (answer.Broken items diag) fits unmarked = absurd fits
  scan_fits login leg ask (answer.Marked m) fits unmarked = absurd unmarked

  plainly_fits : (asked : Work) (first later : List Answered) → AreAnswered w route asked first later → AreUnmarked first
      → FitsWork asked (outcome_said route asked first later)
  plainly_fits (work.Search login legs query small large medium small_element medium_element syntax room) first later are unmarked =
      search_fits login legs query small large medium small_element medium_element syntax room first later (all_hits route first)
      are.at_first refl
  plainly_fits (work.Fetch login legs query hits from count syntax element) first later are unmarked =
      whole_few route (length legs) hits from count first _ refl
  plainly_fits (work.Scan login leg ask) [] later are unmarked = absurd are.at_first
  plainly_fits (work.Scan login leg ask) (a ∷ others) later are unmarked =
      scan_fits login leg ask a.answer are.at_first.0.fits unmarked.0

pub finished-fits : {W : Type 0} (w : world.Ghosts W) → FinishedFits w
finished-fits w route asked first later are =
    let cause : Cause = cause_of route (first ++ later) in
    under_fits asked cause.mark cause.class (outcome_said route asked first later)
    (λ is. plainly_fits w route asked first later are (both_unmarked w route asked first later are is).0)

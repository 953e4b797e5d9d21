-- On a fair route what comes of a work by its legs' answers is what comes of it under their cause
use Rattle.std.proofs.Common.{◌≡◌, ◌<◌, ◌∙◌, Bool, true, false, ℕ, List, [], ◌∷◌, ◌++◌, length, All, Option, Result, Ok, Err, cond, nat_lt, ap, sym, refl, subst}
use Rattle.std.specs.Prelude.{◌==◌}
use Rattle.std.proofs.lemmas.List.{append-nil}
use Rattle.std.proofs.lemmas.List.Elements.{All-head}
use Rattle.z_types.specs.Bib1.{bib1}
use Rattle.z_types.specs.MergedOrder.{total}
use Rattle.z_types.specs.Shown.{shown}
use Rattle.z_types.specs.declared.address.Address.{Address}
use Rattle.z_types.specs.declared.conditions.Condition.TheVariants.{TooManyRecordsRetrieved}
use Rattle.z_types.specs.declared.diagnostic.Diag.{Diag}
use Rattle.z_types.specs.declared.marks.Mark.{Mark}
use Rattle.z_types.specs.declared.marks.Mark.TheVariants as mark
use Rattle.z_types.specs.declared.outcome.Fetched.{Fetched}
use Rattle.z_types.specs.declared.outcome.Fetched.TheVariants as fetched
use Rattle.z_types.specs.declared.outcome.Outcome.{Outcome}
use Rattle.z_types.specs.declared.outcome.Outcome.TheVariants as outcome
use Rattle.z_types.specs.declared.query.RpnQuery.{RpnQuery}
use Rattle.z_types.specs.declared.records.NamedRecord.{NamedRecord}
use Rattle.z_types.specs.declared.scan.ScanAsk.{ScanAsk}
use Rattle.z_types.specs.declared.work.Work.{Work}
use Rattle.z_types.specs.declared.work.Work.TheVariants as work
use Rattle.z_types.specs.declared.world.World as world
use Rattle.z_types.specs.Logins.{inside}
use Rattle.z_types.specs.Under.{under}
use Rattle.route_config.specs.Sound.{IsSound}
use Rattle.route_config.specs.declared.route.Route.{Route}
use Rattle.virt_db.specs.Legs.{leg_at}
use Rattle.gateway_rules.specs.Fair.{IsFair}
use Rattle.gateway_rules.specs.Marks.{Cause}
use Rattle.gateway_rules.specs.Outcomes.{found, login_asked, places_from, plain_outcome, scanned, under_mark, whole}
use Rattle.gateway_rules.specs.Targets.{hits_of, records_at, scan_at}
use Rattle.leg.specs.Right.{AnswerFits, IsWorldsAt}
use Rattle.leg.specs.Terms.{databases_of}
use Rattle.leg.specs.declared.answers.LegAnswer.{LegAnswer}
use Rattle.leg.specs.declared.answers.LegAnswer.TheVariants as answer
use Rattle.leg.specs.declared.tasks.Task.TheVariants.{Scan}
use Rattle.package_rules.specs.declared.answered.Answered.{Answered}
use Rattle.package_rules.specs.Asked.{all_records_asked, element_shown, first_asked, places_shown}
use Rattle.package_rules.specs.Planned.{AreThere, by_hits, then_asked_by, unless_marked}
use Rattle.package_rules.specs.Said.{all_hits, cause_of, entries_said, fetches_of, outcome_said, records_said}
use Rattle.package_rules.specs.Truth.{AreAnswered, AreAnswersTo, FinishedIsOutcome, HasWorldsHits, IsAnswerTo}
use Rattle.package_rules.proofs.HitsSaid.{hits_are}
use Rattle.package_rules.proofs.RecordsSaid.{records_are}
use Rattle.package_rules.proofs.Told.{IsTold, told_at}
use Rattle.package_rules.proofs.Unmarked.{AreUnmarked, IsUnmarked, plain_all, unmarked_all}

-- a mark decides alike
under_same : (m : Mark) (class : List ℕ) (one other : Outcome) → (m ≡ mark.Plain → one ≡ other)
    → under_mark m class one ≡ under_mark m class other
under_same mark.Plain class one other h = h refl
under_same mark.Link class one other h = refl
under_same (mark.Silent looks) class one other h = refl
under_same mark.Gone class one other h = refl
under_same (mark.Full sessions) class one other h = refl

-- what is shown, by whether it is more than there is room for
abbrev shown_if : (over : Bool) (count : ℕ) → Fetched → Fetched
shown_if over count records =
    cond (count == 0) fetched.None (cond over (fetched.Whole (bib1 TooManyRecordsRetrieved [])) records)

-- what a Search shows, as its legs said it
abbrev pub search_said : Route → (legs : List ℕ) (small large medium room : ℕ) → List Answered → List ℕ → Fetched
search_said route legs small large medium room later hits =
    let count = shown (total hits) small large medium in
    let places = places_shown small large medium room hits in
    shown_if (nat_lt room count) count (whole (records_said route (fetches_of (length legs) places later) places))

module _ {W : Type 0} (w : world.Ghosts W) (route : Route) (fair : IsFair w route) (sound : IsSound route) where
  -- the records that a Search shows
  shown_is : (login : Option (List ℕ)) (legs : List ℕ) (query : RpnQuery) (syntax element : Option (List ℕ)) (hits : List ℕ) (count : ℕ) (later : List Answered)
      (over : Bool) → All (λ leg. leg < length route.legs) legs → hits_of (under login w) route legs query ≡ Ok hits
      → AreAnswersTo w route (all_records_asked route login legs query syntax element (cond over [] (places_from hits 1 count))) later
      → AreUnmarked later
      → shown_if over count (whole (records_said route (fetches_of (length legs) (cond over [] (places_from hits 1 count)) later)
      (cond over [] (places_from hits 1 count))))
      ≡ shown_if over count (whole (records_at (under login w) route legs query syntax element (places_from hits 1 count)))
  shown_is login legs query syntax element hits count later true there are all unmarked = refl
  shown_is login legs query syntax element hits count later false there are all unmarked =
      ap (λ (records : Result (List NamedRecord) Diag). shown_if false count (whole records))
      (records_are w login route legs query syntax element hits 1 count later (record {
        fair = fair;
        sound = sound;
        there = there;
        found = are;
        answered = all;
        unmarked = unmarked;
      }))

  -- what it shows as it is meant
  abbrev search_meant : (login : Option (List ℕ)) → (legs : List ℕ) → RpnQuery → (small large medium room : ℕ)
      → (small_element medium_element syntax : Option (List ℕ)) → List ℕ → Fetched
  search_meant login legs query small large medium room small_element medium_element syntax hits =
      let count = shown (total hits) small large medium in
      shown_if (nat_lt room count) count
      (whole (records_at (under login w) route legs query syntax (element_shown small small_element medium_element hits) (places_from hits 1 count)))

  -- by the hits
  search_by : (login : Option (List ℕ)) (legs : List ℕ) (query : RpnQuery) (small large medium : ℕ)
      (small_element medium_element syntax : Option (List ℕ)) (room : ℕ) (later : List Answered) (hits : Result (List ℕ) Diag)
      → All (λ leg. leg < length route.legs) legs → hits_of (under login w) route legs query ≡ hits
      → AreAnswersTo w route
      (by_hits route (work.Search login legs query small large medium small_element medium_element syntax room) hits) later
      → AreUnmarked later
      → found hits (search_said route legs small large medium room later)
      ≡ found hits (search_meant login legs query small large medium room small_element medium_element syntax)
  search_by login legs query small large medium small_element medium_element syntax room later (Err diag) there are all unmarked = refl
  search_by login legs query small large medium small_element medium_element syntax room later (Ok hits) there are all unmarked =
      let count : ℕ = shown (total hits) small large medium in
      ap (λ (records : Fetched). outcome.Found hits records)
      (shown_is login legs query syntax (element_shown small small_element medium_element hits) hits count later (nat_lt room count)
      there are all unmarked)

  scan_by : (dbs : List (List ℕ)) (ask : ScanAsk) (address : Address) (said : LegAnswer) → AnswerFits (Scan ask) said → IsUnmarked said
      → IsWorldsAt w dbs (Scan ask) address said → entries_said said ≡ scanned (w.scan address dbs ask)
  scan_by dbs ask address (answer.Scanned entries) fits unmarked right = sym (ap scanned right)
  scan_by dbs ask address (answer.Refused diag) fits unmarked right = sym (ap scanned right)
  scan_by dbs ask address (answer.Hits hits) fits unmarked right = absurd fits
  scan_by dbs ask address (answer.Items items) fits unmarked right = absurd fits
  scan_by dbs ask address (answer.Broken items diag) fits unmarked right = absurd fits
  scan_by dbs ask address (answer.Marked m) fits unmarked right = absurd unmarked

  -- the entries of a scan
  scan_is : (login : Option (List ℕ)) (leg : ℕ) (ask : ScanAsk) (a : Answered) → leg < length route.legs
      → IsAnswerTo w route (record { leg = leg; login = login; task = Scan ask }) a → IsUnmarked a.answer
      → entries_said a.answer ≡ scanned (scan_at (under login w) ask (leg_at route leg))
  scan_is login leg ask a there is unmarked =
      let told : IsTold w login route leg (Scan ask) a.answer =
      told_at w login route leg (Scan ask) a.answer fair sound there unmarked is.right in
      scan_by (databases_of route leg) ask (inside login told.address) a.answer is.fits unmarked told.right
      ∙ ap scanned (told.means.scan (databases_of route leg) ask
      ∙ ap (λ (dbs : List (List ℕ)). (under login w).scan told.at.address dbs ask) told.dbs
      ∙ sym (ap (scan_at (under login w) ask) told.there))

  -- what comes of each work where no leg is marked
  plainly : (asked : Work) (first later : List Answered) → AreThere route asked → HasWorldsHits w route asked
      → AreAnswered w route asked first later → AreUnmarked first → AreUnmarked later
      → outcome_said route asked first later ≡ plain_outcome (under (login_asked asked) w) route asked
  plainly (work.Search login legs query small large medium small_element medium_element syntax room) first later there hits are one two =
      let search : Work = work.Search login legs query small large medium small_element medium_element syntax room in
      let same : all_hits route first ≡ hits_of (under login w) route legs query =
      hits_are w login route query legs first fair sound there are.at_first one in
      let then : AreAnswersTo w route (by_hits route search (all_hits route first)) later =
      subst (λ (m : Mark). AreAnswersTo w route (unless_marked m (by_hits route search (all_hits route first))) later)
      (plain_all route first one) are.then in
      search_by login legs query small large medium small_element medium_element syntax room later (all_hits route first) there
      (sym same) then two
      ∙ ap (λ (r : Result (List ℕ) Diag).
      found r (search_meant login legs query small large medium room small_element medium_element syntax)) same
  plainly (work.Fetch login legs query hits from count syntax element) first later there found are one two =
      ap (λ (records : Result (List NamedRecord) Diag). outcome.Fetched (whole records))
      (records_are w login route legs query syntax element hits from count first (record {
        fair = fair;
        sound = sound;
        there = there;
        found = found;
        answered = are.at_first;
        unmarked = one;
      }))
  plainly (work.Scan login leg ask) [] later there hits are one two = absurd are.at_first
  plainly (work.Scan login leg ask) (a ∷ others) later there hits are one two =
      scan_is login leg ask a (All-head (λ (l : ℕ). l < length route.legs) leg [] there) are.at_first.0 one.0

-- the answers to what was asked first and then, where their cause is Plain
pub both_unmarked : {W : Type 0} (w : world.Ghosts W) (route : Route) (asked : Work) (first later : List Answered)
    → AreAnswered w route asked first later → (cause_of route (first ++ later)).mark ≡ mark.Plain
    → AreUnmarked first × AreUnmarked later
both_unmarked w route asked first later are is =
    let one = unmarked_all w route (first_asked route asked) first later are.at_first is in
    let end : (cause_of route (later ++ [])).mark ≡ mark.Plain =
    ap (λ (answers : List Answered). (cause_of route answers).mark) (append-nil later) ∙ one.1 in
    (one.0, (unmarked_all w route (then_asked_by route asked first) later [] are.then end).0)

pub finished-is : {W : Type 0} (w : world.Ghosts W) → FinishedIsOutcome w
finished-is w route asked first later fair sound there hits are =
    let cause : Cause = cause_of route (first ++ later) in
    under_same cause.mark cause.class (outcome_said route asked first later) (plain_outcome (under (login_asked asked) w) route asked)
    (λ is. let both = both_unmarked w route asked first later are is in
    plainly w route fair sound asked first later there hits are both.0 both.1)

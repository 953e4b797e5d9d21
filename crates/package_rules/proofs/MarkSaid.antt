-- What comes of a request by its legs' answers has the mark of their cause.
use Rattle.std.proofs.Common.{◌≡◌, List, [], ◌∷◌, ◌++◌, refl}
use Rattle.z_types.specs.declared.marks.Mark.TheVariants.{Plain}
use Rattle.z_types.specs.declared.work.Work.{Work}
use Rattle.z_types.specs.declared.work.Work.TheVariants as work
use Rattle.route_config.specs.declared.route.Route.{Route}
use Rattle.gateway_rules.specs.Works.{mark_of}
use Rattle.gateway_rules.proofs.MarkLemmas.{found-plain, mark-kept}
use Rattle.leg.specs.declared.answers.LegAnswer.{LegAnswer}
use Rattle.leg.specs.declared.answers.LegAnswer.TheVariants.{Hits, Refused, Items, Broken, Scanned, Marked}
use Rattle.package_rules.specs.declared.answered.Answered.{Answered}
use Rattle.package_rules.specs.Said.{all_hits, cause_of, entries_said, outcome_said, scan_said}
use Rattle.package_rules.specs.Truth.{FinishedHasMark}

entries-plain : (said : LegAnswer) → mark_of (entries_said said) ≡ Plain
entries-plain (Hits hits) = refl
entries-plain (Refused diag) = refl
entries-plain (Items items) = refl
entries-plain (Broken items diag) = refl
entries-plain (Scanned entries) = refl
entries-plain (Marked mark) = refl

scan-plain : (answers : List Answered) → mark_of (scan_said answers) ≡ Plain
scan-plain [] = refl
scan-plain (only ∷ others) = entries-plain only.answer

-- what legs said that are not marked has none
said-plain : (route : Route) (asked : Work) (first later : List Answered) → mark_of (outcome_said route asked first later) ≡ Plain
said-plain route (work.Search login legs query small large medium small_element medium_element syntax room) first later =
    found-plain (all_hits route first) _
said-plain route (work.Fetch login legs query hits from count syntax element) first later = refl
said-plain route (work.Scan login leg ask) first later = scan-plain first

pub finished-marked : FinishedHasMark
finished-marked route asked first later =
    let cause = cause_of route (first ++ later) in
    mark-kept cause.mark cause.class (outcome_said route asked first later) (said-plain route asked first later)

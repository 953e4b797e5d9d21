-- Which works are begun, what they may ask of targets, which outcomes fit
-- them, and under which mark (this project's own)
use Rattle.std.specs.Prelude.{◌≡◌, ◌≢◌, ◌+◌, ◌≤◌, length, false}
use Rattle.z_types.specs.Numbers.{ScanHasNumbers}
use Rattle.z_types.specs.QueryMeasures.{leaf_cost}
use Rattle.z_types.specs.declared.scan.ScanAsk.{ScanAsk}
use Rattle.z_types.specs.MergedOrder.{total}
use Rattle.z_types.specs.declared.marks.Mark.{Mark}
use Rattle.z_types.specs.declared.marks.Mark.TheVariants.{Plain}
use Rattle.z_types.specs.declared.outcome.Outcome.{Outcome}
use Rattle.z_types.specs.declared.outcome.Outcome.TheVariants as outcome
use Rattle.z_types.specs.declared.work.Work.{Work}
use Rattle.z_types.specs.declared.work.Work.TheVariants as work
use Rattle.limit_rules.specs.Limits.{most_records}
use Rattle.z_types.specs.Bounds.{most_legs, most_query_cost}
use Rattle.z_sets.specs.Askable.{IsAskableQuery}
use Rattle.unit_forms.specs.Logins.{IsLoginIf}
use Rattle.gateway_rules.specs.Checks.{is_too_long}
use Rattle.gateway_rules.specs.Given.{returned}

-- a work can begin: its legs are not too many; a fetch has the hits of each leg, and asks for one
-- record at least, for not too many, and for none past the hits
abbrev pub CanBegin : Work → Type 0
CanBegin (work.Search login legs query small large medium small_element medium_element
    syntax room) =
    (length legs ≤ most_legs) × (room ≤ most_records)
CanBegin (work.Fetch login legs query hits first count syntax element) =
    (length legs ≤ most_legs) × (length hits ≡ length legs) × (1 ≤ first) × (1 ≤ count)
    × (count ≤ most_records) × (first + count ≤ total hits + 1)
CanBegin (work.Scan login leg ask) = Unit {0}

-- a leg may be asked for a scan: its numbers are within their range, and as an operand it costs no
-- more than a query may
pub record IsAskableScan (ask : ScanAsk) : Type 0 where
  pub numbers : ScanHasNumbers ask
  pub cheap : leaf_cost ask.attrs ask.term ≤ most_query_cost

-- Each leg of a work may be asked for it: its query has no operand that is a result set, its
-- numbers are within their range, query and scan within the bounds of queries, no name of an
-- element set too long, and its login is one. The databases of a leg, 1 to 16 short names, are the
-- route's; which set a session is asked about is no part of a work.
abbrev pub IsAskable : Work → Type 0
IsAskable (work.Search login legs query small large medium small_element medium_element
    syntax room) =
    IsAskableQuery query × (is_too_long small_element ≡ false)
    × (is_too_long medium_element ≡ false) × IsLoginIf login
IsAskable (work.Fetch login legs query hits first count syntax element) =
    IsAskableQuery query × (is_too_long element ≡ false) × IsLoginIf login
IsAskable (work.Scan login leg ask) = IsAskableScan ask × IsLoginIf login

-- an outcome fits its work: it is of the same kind, with the hits of each leg and no more records
-- than there is room for or were asked for; or it is a diagnostic, or a mark other than Plain
abbrev pub FitsWork : Work → Outcome → Type 0
FitsWork (work.Search login legs query small large medium small_element medium_element syntax room)
    (outcome.Found hits fetched) =
    (length hits ≡ length legs) × (returned fetched ≤ room)
FitsWork (work.Fetch login legs query hits first count syntax element) (outcome.Fetched fetched) =
    returned fetched ≤ count
FitsWork (work.Scan login leg ask) (outcome.Scanned answer) = Unit {0}
FitsWork work (outcome.Refused diag) = Unit {0}
FitsWork work (outcome.Marked mark class) = mark ≢ Plain
FitsWork work other = ⊥

-- the mark of what came of a work
abbrev pub mark_of : Outcome → Mark
mark_of (outcome.Marked mark class) = mark
mark_of other = Plain

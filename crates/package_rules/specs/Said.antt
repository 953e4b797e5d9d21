-- What comes of a request by what its legs answered (this project's own; ANSI/NISO Z39.50-2003,
-- 3.2.2.1, 3.2.3.1 and 3.2.8.1)
use Rattle.std.specs.Prelude.{ℕ, ◌-◌, ◌==◌, Bool, true, false, List, [], ◌∷◌, ◌++◌, map, length, Option, None, Some, option_map, slice_get}
use Rattle.std.specs.Prelude.{Result, Ok, Err, filter_map, find}
use Rattle.std.specs.Option.{option_and_then, option_map_or}
use Rattle.std.specs.List.{zip}
use Rattle.z_types.specs.MergedOrder.{Place, total}
use Rattle.z_types.specs.Shown.{shown}
use Rattle.z_types.specs.declared.diagnostic.Diag.{Diag}
use Rattle.z_types.specs.declared.marks.Mark.{Mark}
use Rattle.z_types.specs.declared.outcome.Fetched.TheVariants as fetched
use Rattle.z_types.specs.declared.outcome.Outcome.{Outcome}
use Rattle.z_types.specs.declared.outcome.Outcome.TheVariants as outcome
use Rattle.z_types.specs.declared.records.Item.{Item}
use Rattle.z_types.specs.declared.records.NamedRecord.{NamedRecord}
use Rattle.z_types.specs.declared.work.Work.{Work}
use Rattle.z_types.specs.declared.work.Work.TheVariants as work
use Rattle.route_config.specs.declared.route.Route.{Route}
use Rattle.virt_db.specs.Legs.{leg_at}
use Rattle.gateway_rules.specs.Marks.{Cause, plain}
use Rattle.gateway_rules.specs.Outcomes.{found, places_from, under_mark, whole, within_room}
use Rattle.gateway_rules.specs.Targets.{all_or_first, hidden, named}
use Rattle.leg.specs.declared.answers.LegAnswer.{LegAnswer}
use Rattle.leg.specs.declared.answers.LegAnswer.TheVariants as answer
use Rattle.package_rules.specs.declared.answered.Answered.{Answered}
use Rattle.package_rules.specs.declared.spans.Span.{Span}
use Rattle.package_rules.specs.Asked.{places_shown, spans_of}

-- ---- the mark

-- the mark of an answer, where it has one
abbrev pub mark_of : LegAnswer → Option Mark
mark_of (answer.Marked mark) = Some mark
mark_of other = None

-- the name of the class that a leg goes to
abbrev pub class_name : Route → ℕ → List ℕ
class_name route leg = option_map_or (λ at. at.class.name) (leg_at route leg) []

abbrev pub cause_or : Route → ℕ → Option Mark → Cause → Cause
cause_or route leg None later = later
cause_or route leg (Some mark) later = record { mark = mark; class = class_name route leg }

-- the mark of the first leg that is marked, with the name of its class; else Plain
abbrev pub cause_of : Route → List Answered → Cause
cause_of route [] = plain
cause_of route (first ∷ others) =
    cause_or route first.leg (mark_of first.answer) (cause_of route others)

-- ---- hits

-- how many records a leg found, or its target's diagnostic; a mark finds none
abbrev pub hits_said : LegAnswer → Result ℕ Diag
hits_said (answer.Hits hits) = Ok hits
hits_said (answer.Refused diag) = Err diag
hits_said other = Ok 0

-- whether the leg's database hides the diagnostics of its hits
abbrev pub hides : Route → ℕ → Bool
hides route leg = option_map_or (λ at. at.database.hide_errors) (leg_at route leg) true

-- the hits of each leg, or the first diagnostic that is not hidden
abbrev pub all_hits : Route → List Answered → Result (List ℕ) Diag
all_hits route legs =
    all_or_first (map (λ leg. hidden (hides route leg.leg) (hits_said leg.answer)) legs)

-- ---- records

-- the records that an answer has, and the diagnostic behind them
abbrev pub items_in : LegAnswer → List Item
items_in (answer.Items items) = items
items_in (answer.Broken items diag) = items
items_in other = []

abbrev pub end_in : LegAnswer → Option Diag
end_in (answer.Broken items diag) = Some diag
end_in (answer.Refused diag) = Some diag
end_in other = None

-- what is said so many records behind the first: a record, or the diagnostic in place of the next
abbrev pub item_or_end : Option Item → Bool → Option Diag → Option (Result Item Diag)
item_or_end (Some item) next end = Some (Ok item)
item_or_end None true end = option_map Err end
item_or_end None false end = None

abbrev pub item_said : LegAnswer → ℕ → Option (Result Item Diag)
item_said said behind =
    item_or_end (slice_get (items_in said) behind) (behind == length (items_in said)) (end_in said)

-- a leg's answer under the name of its virtual database
abbrev pub named_at : Route → ℕ → Result Item Diag → Option (Result NamedRecord Diag)
named_at route leg said = option_map (λ at. named at said) (leg_at route leg)

-- what is said at a place by the leg that was asked for its records
abbrev pub said_by : Route → ℕ → Span × Answered → Option (Result NamedRecord Diag)
said_by route rank fetch =
    option_and_then (named_at route fetch.1.leg) (item_said fetch.1.answer (rank - fetch.0.first))

-- what is said at a place of the merged order
abbrev pub said_at : Route → List (Span × Answered) → Place → Option (Result NamedRecord Diag)
said_at route fetches place =
    option_and_then (said_by route place.rank) (find (λ fetch. fetch.0.leg == place.leg) fetches)

-- the records at places, or the first diagnostic in place of one
abbrev pub records_said : Route → List (Span × Answered) → List Place
    → Result (List NamedRecord) Diag
records_said route fetches places = all_or_first (filter_map (said_at route fetches) places)

-- ---- the outcome

-- the answers of the legs that were asked for the records at places, leg by leg, each with its span
abbrev pub fetches_of : (legs : ℕ) → List Place → List Answered → List (Span × Answered)
fetches_of legs places answers = zip (spans_of legs places) answers

-- the entries of a scan, or its target's diagnostic
abbrev pub entries_said : LegAnswer → Outcome
entries_said (answer.Scanned entries) = outcome.Scanned entries
entries_said (answer.Refused diag) = outcome.Refused diag
entries_said other = outcome.Fetched fetched.None

abbrev pub scan_said : List Answered → Outcome
scan_said [] = outcome.Fetched fetched.None
scan_said (only ∷ others) = entries_said only.answer

-- what a work comes to by its legs' answers, where none is marked: the answers to what was asked
-- first, and to what was asked then
abbrev pub outcome_said : Route → Work → (first later : List Answered) → Outcome
outcome_said route (work.Search login legs query small large medium small_element medium_element
    syntax room) first later =
    found (all_hits route first)
    (λ hits.
    let places = places_shown small large medium room hits in
    within_room room (shown (total hits) small large medium)
    (whole (records_said route (fetches_of (length legs) places later) places)))
outcome_said route (work.Fetch login legs query hits from count syntax element) first later =
    let places = places_from hits from count in
    outcome.Fetched (whole (records_said route (fetches_of (length legs) places first) places))
outcome_said route (work.Scan login leg ask) first later = scan_said first

-- the mark of the first leg that is marked decides, those for records behind those for hits; else
-- what the legs said
abbrev pub finished : Route → Work → (first later : List Answered) → Outcome
finished route work first later =
    let cause = cause_of route (first ++ later) in
    under_mark cause.mark cause.class (outcome_said route work first later)

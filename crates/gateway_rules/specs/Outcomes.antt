-- What comes of a work under a cause (ANSI/NISO Z39.50-2003, 3.2.2.1, 3.2.3.1 and 3.2.8.1)
use Rattle.std.specs.Prelude.{ℕ, ◌-◌, take, drop, ◌==◌, List, [], ◌∷◌, Option, Result, Ok, Err, if◌then◌else◌, nat_le, nat_lt}
use Rattle.std.specs.Prelude.{flat_map, option_to_list, slice_get}
use Rattle.z_types.specs.declared.diagnostic.Diag.{Diag}
use Rattle.z_types.specs.declared.marks.Mark.{Mark}
use Rattle.z_types.specs.declared.marks.Mark.TheVariants.{Plain}
use Rattle.z_types.specs.declared.records.NamedRecord.{NamedRecord}
use Rattle.z_types.specs.declared.scan.ScanAnswer.{ScanAnswer}
use Rattle.z_types.specs.declared.world.World as world
use Rattle.z_types.specs.Under.{under}
use Rattle.route_config.specs.declared.route.Route.{Route}
use Rattle.z_types.specs.Bib1.{bib1}
use Rattle.z_types.specs.declared.conditions.Condition.TheVariants.{TooManyRecordsRetrieved}
use Rattle.virt_db.specs.Legs.{leg_at}
use Rattle.gateway_rules.specs.Marks.{Cause}
use Rattle.z_types.specs.MergedOrder.{Place, merged, total}
use Rattle.z_types.specs.Shown.{shown}
use Rattle.gateway_rules.specs.Targets.{hits_of, records_at, scan_at, class_of}
use Rattle.z_types.specs.declared.outcome.Fetched.TheVariants as fetched
use Rattle.z_types.specs.declared.outcome.Fetched.{Fetched}
use Rattle.z_types.specs.declared.outcome.Outcome.TheVariants as outcome
use Rattle.z_types.specs.declared.outcome.Outcome.{Outcome}
use Rattle.z_types.specs.declared.work.Work.TheVariants as work
use Rattle.z_types.specs.declared.work.Work.{Work}

-- the places of a result set from one on, which is counted from 1
abbrev pub places_from : List ℕ → (first count : ℕ) → List Place
places_from hits first count = take count (drop (first - 1) (merged hits))

-- records, or the first diagnostic in place of all of them
abbrev pub whole : Result (List NamedRecord) Diag → Fetched
whole (Ok records) = fetched.Records records
whole (Err diag) = fetched.Whole diag

-- what is shown with a Search: nothing, or 12 where it is more than the room, or the records
abbrev pub within_room : (room count : ℕ) → Fetched → Fetched
within_room room count records =
    if count == 0 then fetched.None
    else if nat_lt room count then fetched.Whole (bib1 TooManyRecordsRetrieved [])
    else records

-- the hits of each leg with what is fetched of them, or a target's diagnostic
abbrev pub found : Result (List ℕ) Diag → (List ℕ → Fetched) → Outcome
found (Ok hits) records = outcome.Found hits (records hits)
found (Err diag) records = outcome.Refused diag

-- the entries of a scan, or the target's diagnostic
abbrev pub scanned : Result ScanAnswer Diag → Outcome
scanned (Ok answer) = outcome.Scanned answer
scanned (Err diag) = outcome.Refused diag

-- what comes of a work where no leg is marked
abbrev pub plain_outcome : {W : Type 0} → world.Ghosts W → Route → Work → Outcome
plain_outcome w route
    (work.Search login legs query small large medium small_element medium_element syntax room) =
    found (hits_of w route legs query)
    (λ hits.
    let count = shown (total hits) small large medium in
    let element = if nat_le (total hits) small then small_element else medium_element in
    within_room room count
    (whole (records_at w route legs query syntax element (places_from hits 1 count))))
plain_outcome w route (work.Fetch login legs query hits first count syntax element) =
    outcome.Fetched
    (whole (records_at w route legs query syntax element (places_from hits first count)))
plain_outcome w route (work.Scan login leg ask) = scanned (scan_at w ask (leg_at route leg))

-- a mark decides, or else the targets do
abbrev pub under_mark : Mark → List ℕ → Outcome → Outcome
under_mark Plain class plainly = plainly
under_mark mark class plainly = outcome.Marked mark class

-- the login under which a work asks, or none
abbrev pub login_asked : Work → Option (List ℕ)
login_asked (work.Search login legs query small large medium small_element medium_element syntax
    room) = login
login_asked (work.Fetch login legs query hits first count syntax element) = login
login_asked (work.Scan login leg ask) = login

-- what comes of a work under a cause: the targets mean what they mean under its login
abbrev pub outcome_of : {W : Type 0} → world.Ghosts W → Route → Work → Cause → Outcome
outcome_of w route work cause =
    under_mark cause.mark cause.class (plain_outcome (under (login_asked work) w) route work)

-- the legs that a work asks, by their places in the route: a fetch asks those that have a record to
-- give
abbrev pub legs_asked : Work → List ℕ
legs_asked (work.Search login legs query small large medium small_element medium_element syntax
    room) = legs
legs_asked (work.Fetch login legs query hits first count syntax element) =
    flat_map (λ place. option_to_list (slice_get legs place.leg)) (places_from hits first count)
legs_asked (work.Scan login leg ask) = leg ∷ []

-- the names of the classes that a work asks
abbrev pub classes_asked : Route → Work → List (List ℕ)
classes_asked route work = flat_map (class_of route) (legs_asked work)

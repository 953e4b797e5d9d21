-- What a request asks of its legs (this project's own): first the hits of each, or its scan; and
-- where records are to be given, those at their places of the merged order, of each leg that has
-- any there
use Rattle.std.specs.Prelude.{ℕ, ◌+◌, ◌==◌, nat_le, nat_lt, List, [], ◌∷◌, map, length, Option, filter, flat_map}
use Rattle.std.specs.Prelude.{if◌then◌else◌, slice_index_or}
use Rattle.std.specs.List.{range_with_len}
use Rattle.z_types.specs.MergedOrder.{Place, total}
use Rattle.z_types.specs.Shown.{shown}
use Rattle.z_types.specs.declared.key.SetKey.{SetKey}
use Rattle.z_types.specs.declared.query.RpnQuery.{RpnQuery}
use Rattle.z_types.specs.declared.work.Work.{Work}
use Rattle.z_types.specs.declared.work.Work.TheVariants as work
use Rattle.route_config.specs.declared.route.Route.{Route}
use Rattle.gateway_rules.specs.Outcomes.{places_from}
use Rattle.leg.specs.Terms.{databases_of}
use Rattle.leg.specs.declared.tasks.Task.{Task}
use Rattle.leg.specs.declared.tasks.Task.TheVariants.{Hits, Records, Scan}
use Rattle.package_rules.specs.declared.spans.Span.{Span}

-- what one leg is asked for: its place in the route, the login of who asks, and its task
pub record Asked : Type 0 where
  pub leg : ℕ
  pub login : Option (List ℕ)
  pub task : Task

-- a query at a leg: the databases that the leg is at its target, and the query
abbrev pub key_at : Route → ℕ → RpnQuery → SetKey
key_at route leg query = record { dbs = databases_of route leg; query = query }

abbrev pub hits_asked : Route → (login : Option (List ℕ)) → RpnQuery → ℕ → Asked
hits_asked route login query leg =
    record { leg = leg; login = login; task = Hits (key_at route leg query) }

-- the ranks of a leg among places
abbrev pub ranks_of : ℕ → List Place → List ℕ
ranks_of leg places = map (λ place. place.rank) (filter (λ place. place.leg == leg) places)

-- the records of a leg at these ranks, which are one behind another
abbrev pub span_of : ℕ → List ℕ → List Span
span_of leg [] = []
span_of leg (rank ∷ ranks) = record { leg = leg; first = rank; count = length ranks + 1 } ∷ []

-- the records at places, leg by leg, of legs that are so many
abbrev pub spans_of : (legs : ℕ) → List Place → List Span
spans_of legs places = flat_map (λ leg. span_of leg (ranks_of leg places)) (range_with_len 0 legs)

-- the leg of these at a place
abbrev pub leg_of : List ℕ → ℕ → ℕ
leg_of legs place = slice_index_or legs place 0

-- the records of a span
abbrev pub records_asked : Route → (login : Option (List ℕ)) → List ℕ → RpnQuery
    → (syntax element : Option (List ℕ)) → Span → Asked
records_asked route login legs query syntax element span = record {
  leg = leg_of legs span.leg;
  login = login;
  task = Records (key_at route (leg_of legs span.leg) query) span.first span.count syntax element;
}

-- the records at places, leg by leg
abbrev pub all_records_asked : Route → (login : Option (List ℕ)) → List ℕ → RpnQuery
    → (syntax element : Option (List ℕ)) → List Place → List Asked
all_records_asked route login legs query syntax element places =
    map (records_asked route login legs query syntax element) (spans_of (length legs) places)

-- ---- what a work asks

-- the places of the records that a Search shows: none, where they are more than there is room for
abbrev pub places_shown : (small large medium room : ℕ) → List ℕ → List Place
places_shown small large medium room hits =
    let count = shown (total hits) small large medium in
    if nat_lt room count then [] else places_from hits 1 count

-- the element set name under which they are shown
abbrev pub element_shown : (small : ℕ) → (small_element medium_element : Option (List ℕ)) → List ℕ
    → Option (List ℕ)
element_shown small small_element medium_element hits =
    if nat_le (total hits) small then small_element else medium_element

-- what is asked first
abbrev pub first_asked : Route → Work → List Asked
first_asked route
    (work.Search login legs query small large medium small_element medium_element syntax room) =
    map (hits_asked route login query) legs
first_asked route (work.Fetch login legs query hits first count syntax element) =
    all_records_asked route login legs query syntax element (places_from hits first count)
first_asked route (work.Scan login leg ask) =
    record { leg = leg; login = login; task = Scan ask } ∷ []

-- what is asked then, by the hits of a Search: the records that are shown with it
abbrev pub then_asked : Route → Work → List ℕ → List Asked
then_asked route (work.Search login legs query small large medium small_element medium_element
    syntax room) hits =
    all_records_asked route login legs query syntax
    (element_shown small small_element medium_element hits)
    (places_shown small large medium room hits)
then_asked route other hits = []

-- Each leg that is asked is one of those that the work asks, and of the route
use Rattle.std.proofs.Common.{◌≡◌, ◌<◌, ◌≤◌, ◌+◌, ◌∙◌, ℕ, zero, suc, List, [], ◌∷◌, length, get_or, All, Contains, Option, Some, Result, Ok, Err, ap, sym, subst, arith, slice_get, option_to_list, true}
use Rattle.std.specs.Prelude.{◌==◌, filter, flat_map}
use Rattle.std.specs.List.{range_with_len}
use Rattle.std.proofs.lemmas.Bool.{eqb-true}
use Rattle.std.proofs.lemmas.List.{length-map}
use Rattle.std.proofs.lemmas.List.Elements.{All-append, All-cons, All-contains_itself, All-filter, All-get_or, All-head, All-map, All-nil, Contains-append_left, Contains-append_right, Contains-get_or, filter_passes}
use Rattle.std.proofs.lemmas.Option.{slice_get-get_or}
use Rattle.z_types.specs.MergedOrder.{Place, place_at}
use Rattle.z_types.specs.declared.diagnostic.Diag.{Diag}
use Rattle.z_types.specs.declared.marks.Mark.{Mark}
use Rattle.z_types.specs.declared.marks.Mark.TheVariants as mark
use Rattle.z_types.specs.declared.query.RpnQuery.{RpnQuery}
use Rattle.z_types.specs.declared.work.Work.{Work}
use Rattle.z_types.specs.declared.work.Work.TheVariants as work
use Rattle.route_config.specs.declared.route.Route.{Route}
use Rattle.gateway_rules.specs.Outcomes.{legs_asked, places_from}
use Rattle.package_rules.specs.declared.answered.Answered.{Answered}
use Rattle.package_rules.specs.declared.spans.Span.{Span}
use Rattle.package_rules.specs.Asked.{Asked, all_records_asked, element_shown, first_asked, hits_asked, leg_of, places_shown, ranks_of, records_asked, span_of, spans_of, then_asked}
use Rattle.package_rules.specs.Planned.{AreThere, by_hits, then_asked_by, unless_marked}
use Rattle.package_rules.specs.Said.{all_hits, cause_of}

-- ---- items among lists of items

-- what one item gives is among what all give
pub Contains-flat_map : {X Y : Type 0} (f : X → List Y) (xs : List X) (x : X) (y : Y) → Contains xs x → Contains (f x) y
    → Contains (flat_map f xs) y
Contains-flat_map f [] x y (i, inside, is) given = absurd (omega (arith, inside))
Contains-flat_map f (first ∷ xs) x y (zero, inside, is) given =
    Contains-append_left (f first) (flat_map f xs) y (subst (λ z. Contains (f z) y) (sym is) given)
Contains-flat_map f (first ∷ xs) x y (suc i, inside, is) given =
    Contains-append_right (f first) (flat_map f xs) y (Contains-flat_map f xs x y (i, omega (arith, inside), is) given)

-- ---- the legs of spans

-- a leg that has ranks among places has a place there
record HasPlace (leg : ℕ) (places : List Place) : Type 0 where
  pub place : Place
  pub among : Contains places place
  pub own : place.leg ≡ leg

has_place : (leg : ℕ) (places : List Place) → 1 ≤ length (ranks_of leg places) → HasPlace leg places
has_place leg places some =
    let own : List Place = filter (λ (p : Place). p.leg == leg) places in
    let inside : 0 < length own = omega (arith, some, length-map own (λ (p : Place). p.rank)) in
    let place : Place = get_or own 0 (place_at 0 0) in
    let among : All (Contains places) own =
    All-filter (λ (p : Place). p.leg == leg) (Contains places) places (All-contains_itself places) in
    let passes : All (λ (p : Place). (p.leg == leg) ≡ true) own = filter_passes (λ (p : Place). p.leg == leg) places in
    record {
      place = place;
      among = All-get_or (Contains places) own 0 (place_at 0 0) inside among;
      own = eqb-true place.leg leg (All-get_or (λ (p : Place). (p.leg == leg) ≡ true) own 0 (place_at 0 0) inside passes);
    }

-- so it stands among the legs at the places
leg_stands : (legs : List ℕ) (leg : ℕ) (places : List Place) → leg < length legs → HasPlace leg places
    → Contains (flat_map (λ (p : Place). option_to_list (slice_get legs p.leg)) places) (leg_of legs leg)
leg_stands legs leg places inside has =
    let is : slice_get legs has.place.leg ≡ Some (leg_of legs leg) =
    ap (slice_get legs) has.own ∙ slice_get-get_or legs leg 0 inside in
    let only : option_to_list (slice_get legs has.place.leg) ≡ leg_of legs leg ∷ [] = ap option_to_list is in
    Contains-flat_map (λ (p : Place). option_to_list (slice_get legs p.leg)) places has.place (leg_of legs leg) has.among
    (subst (λ (ls : List ℕ). Contains ls (leg_of legs leg)) (sym only) (Contains-get_or (leg_of legs leg ∷ []) 0 0 (omega arith)))

module _ (P : ℕ → Type 0) (places : List Place) where
  span_each : (leg : ℕ) (ranks : List ℕ) → (1 ≤ length ranks → P leg) → All (λ (s : Span). P s.leg) (span_of leg ranks)
  span_each leg [] each = All-nil (λ (s : Span). P s.leg)
  span_each leg (rank ∷ ranks) each =
      All-cons (λ (s : Span). P s.leg) (record { leg = leg; first = rank; count = length ranks + 1 }) [] (each (omega arith))
      (All-nil (λ (s : Span). P s.leg))

  spans_from : (from count : ℕ) → ((leg : ℕ) → leg < from + count → 1 ≤ length (ranks_of leg places) → P leg)
      → All (λ (s : Span). P s.leg) (flat_map (λ (l : ℕ). span_of l (ranks_of l places)) (range_with_len from count))
  spans_from from zero each = All-nil (λ (s : Span). P s.leg)
  spans_from from (suc count) each =
      All-append (λ (s : Span). P s.leg) (span_of from (ranks_of from places))
      (flat_map (λ (l : ℕ). span_of l (ranks_of l places)) (range_with_len (from + 1) count))
      (span_each from (ranks_of from places) (each from (omega arith)))
      (spans_from (from + 1) count (λ leg inside. each leg (omega (arith, inside))))

  -- what holds of each leg that has ranks holds of each span's
  spans_each : (legs : ℕ) → ((leg : ℕ) → leg < legs → 1 ≤ length (ranks_of leg places) → P leg)
      → All (λ (s : Span). P s.leg) (spans_of legs places)
  spans_each legs each = spans_from 0 legs (λ leg inside. each leg (omega (arith, inside)))

-- ---- the legs that are asked

-- each leg that is asked is one of these
abbrev pub AreOf : (ℕ → Type 0) → List Asked → Type 0
AreOf P asked = All (λ ask. P ask.leg) asked

records_of : (P : ℕ → Type 0) (route : Route) (login : Option (List ℕ)) (legs : List ℕ) (query : RpnQuery) (syntax element : Option (List ℕ)) (places : List Place)
    → ((leg : ℕ) → leg < length legs → 1 ≤ length (ranks_of leg places) → P (leg_of legs leg))
    → AreOf P (all_records_asked route login legs query syntax element places)
records_of P route login legs query syntax element places each =
    All-map (λ (ask : Asked). P ask.leg) (records_asked route login legs query syntax element) (spans_of (length legs) places)
    (spans_each (λ (leg : ℕ). P (leg_of legs leg)) places (length legs) each)

-- a leg of the route that the work asks
pub record IsLegOf (route : Route) (asked : Work) (leg : ℕ) : Type 0 where
  pub named : Contains (legs_asked asked) leg
  pub there : leg < length route.legs

-- a leg of those that the work names
module _ (route : Route) where
  each_is : (asked : Work) (legs : List ℕ) (place : ℕ) → All (λ (leg : ℕ). leg < length route.legs) legs → place < length legs
      → Contains (legs_asked asked) (leg_of legs place) → IsLegOf route asked (leg_of legs place)
  each_is asked legs place there inside is =
      record { named = is; there = All-get_or (λ (leg : ℕ). leg < length route.legs) legs place 0 inside there }

  -- what is asked first
  pub first_of : (asked : Work) → AreThere route asked → AreOf (IsLegOf route asked) (first_asked route asked)
  first_of (work.Search login legs query small large medium small_element medium_element syntax room) there =
      let asked : Work = work.Search login legs query small large medium small_element medium_element syntax room in
      All-map (λ (ask : Asked). IsLegOf route asked ask.leg) (hits_asked route login query) legs
      (λ k d inside. record { named = Contains-get_or legs k d inside; there = there k d inside })
  first_of (work.Fetch login legs query hits first count syntax element) there =
      let asked : Work = work.Fetch login legs query hits first count syntax element in
      let places : List Place = places_from hits first count in
      records_of (IsLegOf route asked) route login legs query syntax element places
      (λ leg inside some. each_is asked legs leg there inside (leg_stands legs leg places inside (has_place leg places some)))
  first_of (work.Scan login leg ask) there =
      let asked : Work = work.Scan login leg ask in
      All-cons (λ (a : Asked). IsLegOf route asked a.leg) _ [] (record {
        named = Contains-get_or (leg ∷ []) 0 0 (omega arith);
        there = All-head (λ (l : ℕ). l < length route.legs) leg [] there;
      }) (All-nil (λ (a : Asked). IsLegOf route asked a.leg))

  -- what is asked then
  then_of : (asked : Work) (hits : List ℕ) → AreThere route asked → AreOf (IsLegOf route asked) (then_asked route asked hits)
  then_of (work.Search login legs query small large medium small_element medium_element syntax room) hits there =
      let asked : Work = work.Search login legs query small large medium small_element medium_element syntax room in
      records_of (IsLegOf route asked) route login legs query syntax (element_shown small small_element medium_element hits)
      (places_shown small large medium room hits)
      (λ leg inside some. each_is asked legs leg there inside (Contains-get_or legs leg 0 inside))
  then_of (work.Fetch login legs query hits first count syntax element) all there =
      All-nil (λ (a : Asked). IsLegOf route (work.Fetch login legs query hits first count syntax element) a.leg)
  then_of (work.Scan login leg ask) hits there = All-nil (λ (a : Asked). IsLegOf route (work.Scan login leg ask) a.leg)

  of_hits : (asked : Work) (hits : Result (List ℕ) Diag) → AreThere route asked
      → AreOf (IsLegOf route asked) (by_hits route asked hits)
  of_hits asked (Ok hits) there = then_of asked hits there
  of_hits asked (Err diag) there = All-nil (λ (a : Asked). IsLegOf route asked a.leg)

of_unmarked : (P : ℕ → Type 0) (m : Mark) (then : List Asked) → AreOf P then → AreOf P (unless_marked m then)
of_unmarked P mark.Plain then each = each
of_unmarked P mark.Link then each = All-nil (λ (a : Asked). P a.leg)
of_unmarked P (mark.Silent looks) then each = All-nil (λ (a : Asked). P a.leg)
of_unmarked P mark.Gone then each = All-nil (λ (a : Asked). P a.leg)
of_unmarked P (mark.Full sessions) then each = All-nil (λ (a : Asked). P a.leg)

pub later_of : (route : Route) (asked : Work) (first : List Answered) → AreThere route asked
    → AreOf (IsLegOf route asked) (then_asked_by route asked first)
later_of route asked first there =
    of_unmarked (IsLegOf route asked) (cause_of route first).mark (by_hits route asked (all_hits route first))
    (of_hits route asked (all_hits route first) there)

-- What a leg gives for a place of the merged order
use Rattle.std.proofs.Common.{◌≡◌, ◌≢◌, ◌∙◌, ◌<◌, ◌+◌, ◌-◌, ◌⊎◌, ℕ, Bool, true, false, cond, List, [], ◌∷◌, ◌++◌, length, take, drop, get_or, set, Option, None, Some, find, ap, sym, refl, arith, inl, inr, slice_get}
use Rattle.std.specs.Prelude.{◌==◌}
use Rattle.std.specs.List.{zip}
use Rattle.std.specs.Option.{option_and_then}
use Rattle.std.proofs.Math.Dec.{eqb}
use Rattle.std.proofs.lemmas.Bool.Decides.{eqb_tells}
use Rattle.std.proofs.lemmas.List.{get_or-set_other, get_or-set_same, get_or-take, length-append, length-take, take-take}
use Rattle.std.proofs.lemmas.Option.{same_Some}
use Rattle.z_types.specs.MergedOrder.{Place, merged, place_at}
use Rattle.route_config.specs.declared.route.Route.{Route}
use Rattle.gateway_rules.specs.Outcomes.{places_from}
use Rattle.package_rules.specs.declared.answered.Answered.{Answered}
use Rattle.package_rules.specs.declared.spans.Span.{Span}
use Rattle.package_rules.specs.Asked.{ranks_of, spans_of}
use Rattle.package_rules.specs.Said.{fetches_of, item_said, named_at, said_at}
use Rattle.package_rules.specs.steps.Spans.{rank_from}
use Rattle.package_rules.proofs.Found.{is_of, span_found, span_from, span_there}
use Rattle.package_rules.proofs.RankGood.{IsRankOf, rank_of}
use Rattle.package_rules.proofs.RunLemmas.{IsNextRank, next_rank}
use Rattle.package_rules.proofs.Taken.{next_place, parted}
use Rattle.package.specs.steps.Ends.{SupplyView, fetch_of, named_next, no_supply, supply_of}

-- ---- the span of what is found

zip_by : (leg : ℕ) (span : Span) (a : Answered) (spans : List Span) (answers : List Answered) (fetch : Span × Answered) (own : Bool)
    → cond own (Some (span, a)) (fetch_of (zip spans answers) leg) ≡ Some fetch
    → (fetch_of (zip spans answers) leg ≡ Some fetch → find (is_of leg) spans ≡ Some fetch.0)
    → cond own (Some span) (find (is_of leg) spans) ≡ Some fetch.0
zip_by leg span a spans answers fetch true found later =
    ap (λ (f : Span × Answered). Some f.0) (same_Some (span, a) fetch found)
zip_by leg span a spans answers fetch false found later = later found

zip_found : (leg : ℕ) (spans : List Span) (answers : List Answered) (fetch : Span × Answered)
    → fetch_of (zip spans answers) leg ≡ Some fetch → find (is_of leg) spans ≡ Some fetch.0
zip_found leg [] answers fetch found = absurd cc
zip_found leg (span ∷ spans) [] fetch found = absurd cc
zip_found leg (span ∷ spans) (a ∷ answers) fetch found =
    zip_by leg span a spans answers fetch (span.leg == leg) found (zip_found leg spans answers fetch)

-- ---- the place that comes next

-- it stands behind those before it
pub place_split : (hits : List ℕ) (first behind count position : ℕ) (place : Place) → 0 < first → behind < count
    → position ≡ first + behind → slice_get (merged hits) (position - 1) ≡ Some place
    → IsRankOf hits first count place (places_from hits first behind)
place_split hits first behind count position place counted within is found =
    let all : List Place = drop (first - 1) (merged hits) in
    let next = next_place hits first behind position place counted is found in
    let inside : behind < length (take count all) = omega (arith, length-take count all, next.0) in
    let here : get_or (take count all) behind place ≡ place = get_or-take count all behind place within ∙ next.1 in
    let front : take behind (take count all) ≡ take behind all = take-take behind count all (omega (arith, within)) in
    rank_of hits first count place (places_from hits first behind) (drop (behind + 1) (take count all))
    (parted (take count all) behind place place inside here
    ∙ ap (λ (ps : List Place). ps ++ place ∷ drop (behind + 1) (take count all)) front)

module _ (hits : List ℕ) (first behind count position : ℕ) (answers : List Answered) (leg rank : ℕ) where
  abbrev fetches : List (Span × Answered)
  fetches = fetches_of (length hits) (places_from hits first count) answers

  abbrev given : ℕ
  given = length (ranks_of leg (places_from hits first behind))

  behind_first : (fetch : Span × Answered) → IsRankOf hits first count (place_at leg rank) (places_from hits first behind)
      → fetch_of fetches leg ≡ Some fetch → rank - fetch.0.first ≡ given
  behind_first fetch is found =
      let places : List Place = places_from hits first count in
      let span : Span = span_from leg (rank_from hits first leg) (length (ranks_of leg places)) in
      let there : find (is_of leg) (spans_of (length hits) places) ≡ Some span =
      span_found leg (length hits) places span
      (span_there leg (get_or hits leg 0) (rank_from hits first leg) (ranks_of leg places) is.run is.some) refl is.leg in
      let own : find (is_of leg) (spans_of (length hits) places) ≡ Some fetch.0 =
      zip_found leg (spans_of (length hits) places) answers fetch found in
      let same : fetch.0.first ≡ rank_from hits first leg =
      ap (λ (s : Span). s.first) (same_Some fetch.0 span (sym own ∙ there)) in
      omega (arith, same, is.rank)

  said_by_found : (route : Route) (o : Option (Span × Answered)) → ((fetch : Span × Answered) → o ≡ Some fetch → rank - fetch.0.first ≡ given)
      → option_and_then (λ (fetch : Span × Answered). option_and_then (named_at route fetch.1.leg) (item_said fetch.1.answer (rank - fetch.0.first))) o
      ≡ named_next route given o
  said_by_found route None each = refl
  said_by_found route (Some fetch) each =
      ap (λ (n : ℕ). option_and_then (named_at route fetch.1.leg) (item_said fetch.1.answer n)) (each fetch refl)

  -- what is said at the next place is what the leg gives next
  pub said_is_next : (route : Route) → 0 < first → behind < count → position ≡ first + behind
      → slice_get (merged hits) (position - 1) ≡ Some (place_at leg rank)
      → said_at route fetches (place_at leg rank) ≡ named_next route given (fetch_of fetches leg)
  said_is_next route counted within is found =
      let place : IsRankOf hits first count (place_at leg rank) (places_from hits first behind) =
      place_split hits first behind count position (place_at leg rank) counted within is found in
      said_by_found route (fetch_of fetches leg) (λ fetch there. behind_first fetch place there)

  one_given : (supplies : List SupplyView) (supply : SupplyView) (k : ℕ) → IsNextRank hits first behind (place_at leg rank)
      → leg < length supplies → supply ≡ supply_of (given + 1) (fetch_of fetches leg)
      → get_or supplies k no_supply ≡ supply_of (length (ranks_of k (places_from hits first behind))) (fetch_of fetches k)
      → ((eqb leg k ≡ true) × (leg ≡ k)) ⊎ ((eqb leg k ≡ false) × (leg ≢ k))
      → get_or (set supplies leg supply) k no_supply
      ≡ supply_of (length (ranks_of k (places_from hits first (behind + 1)))) (fetch_of fetches k)
  one_given supplies supply k next inside left so_far (inl same) =
      let more : given + 1 ≡ length (ranks_of leg (places_from hits first (behind + 1))) =
      sym (ap (λ (ns : List ℕ). length ns) next.own ∙ length-append (ranks_of leg (places_from hits first behind)) (rank ∷ [])) in
      ap (λ (j : ℕ). get_or (set supplies leg supply) j no_supply) (sym same.1)
      ∙ get_or-set_same supplies leg supply no_supply inside ∙ left
      ∙ ap (λ (n : ℕ). supply_of n (fetch_of fetches leg)) more
      ∙ ap (λ (j : ℕ). supply_of (length (ranks_of j (places_from hits first (behind + 1)))) (fetch_of fetches j)) same.1
  one_given supplies supply k next inside left so_far (inr other) =
      get_or-set_other supplies leg k supply no_supply (λ e. other.1 (sym e)) ∙ so_far
      ∙ ap (λ (ns : List ℕ). supply_of (length ns) (fetch_of fetches k)) (sym (next.others k other.1))

  -- what is left of each leg behind it
  pub given_more : (supplies : List SupplyView) (supply : SupplyView) → 0 < first → position ≡ first + behind
      → slice_get (merged hits) (position - 1) ≡ Some (place_at leg rank) → length supplies ≡ length hits
      → supply ≡ supply_of (given + 1) (fetch_of fetches leg)
      → ((k : ℕ) → get_or supplies k no_supply ≡ supply_of (length (ranks_of k (places_from hits first behind))) (fetch_of fetches k))
      → (k : ℕ) → get_or (set supplies leg supply) k no_supply
      ≡ supply_of (length (ranks_of k (places_from hits first (behind + 1)))) (fetch_of fetches k)
  given_more supplies supply counted is found size left so_far k =
      let next : IsNextRank hits first behind (place_at leg rank) =
      next_rank hits first behind position (place_at leg rank) counted is found in
      one_given supplies supply k next (omega (arith, next.leg, size)) left (so_far k) (eqb_tells leg k)

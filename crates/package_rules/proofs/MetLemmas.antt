-- What was met of the ranks of a leg tells its span
use Rattle.std.proofs.Common.{◌≡◌, ◌≢◌, ◌≤◌, ◌<◌, ◌+◌, ◌-◌, ℕ, zero, suc, List, [], ◌∷◌, ◌++◌, All, length, take, drop, get_or, set, refl, sym, ap, ◌∙◌, arith, add-one, inl, inr}
use Rattle.std.specs.Prelude.{◌==◌, ◌⊎◌, Bool, true, false, cond, flat_map}
use Rattle.std.specs.List.{range_with_len}
use Rattle.std.proofs.Math.Dec.{eqb}
use Rattle.std.proofs.lemmas.Bool.Decides.{eqb_tells}
use Rattle.std.proofs.lemmas.Grind.{flat_map-append}
use Rattle.std.proofs.lemmas.List.{append-nil, get_or_default, get_or-set_other, get_or-set_same, length-append, length-take}
use Rattle.std.proofs.lemmas.List.Elements.{All-nil, All-cons}
use Rattle.z_types.specs.Bounds.{most_legs}
use Rattle.z_types.specs.MergedOrder.{Place, merged, place_at}
use Rattle.gateway_rules.specs.Outcomes.{places_from}
use Rattle.package_rules.specs.declared.spans.Met.{Met}
use Rattle.package_rules.specs.declared.spans.Span.{Span}
use Rattle.package_rules.specs.Asked.{ranks_of, span_of, spans_of}
use Rattle.package_rules.specs.steps.Spans.{IsSpanOf, RunTo, met_of, met_then, none_met, rank_from, span_met}
use Rattle.package_rules.proofs.Ranks.{ranks_few}
use Rattle.package_rules.proofs.RunLemmas.{IsNextRank, run_of_places}

no_zero : (n : ℕ) → 1 ≤ n → (n == 0) ≡ false
no_zero n h = grind (arith, h)

abbrev met_at : (first last : ℕ) → Met
met_at first last = record { first = first; last = last }

met_ends : (first last other start : ℕ) → other ≡ last → first ≡ start → met_at first other ≡ met_at start last
met_ends first last other start h k = ap (λ (n : ℕ). met_at first n) h ∙ ap (λ (n : ℕ). met_at n last) k

-- one rank more was met
pub met_more : (from rank : ℕ) (ranks : List ℕ) → 1 ≤ from → rank ≡ from + length ranks
    → met_of from (ranks ++ rank ∷ []) ≡ met_then (met_of from ranks) rank
met_more from rank [] some is =
    let same : rank ≡ from = omega (arith, is) in
    met_ends from rank (from + 0) rank (omega (arith, same)) (sym same)
met_more from rank (r ∷ ranks) some is =
    let end : from + length (ranks ++ rank ∷ []) ≡ rank = omega (arith, is, length-append ranks (rank ∷ [])) in
    let kept : cond (from == 0) rank from ≡ from = ap (λ (b : Bool). cond b rank from) (no_zero from some) in
    met_ends from rank (from + length (ranks ++ rank ∷ [])) (cond (from == 0) rank from) end (sym kept)

-- its span
pub span_is : (leg last from : ℕ) (ranks : List ℕ) → 1 ≤ from → RunTo last from ranks
    → span_met leg (met_of from ranks) ≡ span_of leg ranks
span_is leg last from [] some run = refl
span_is leg last from (r ∷ ranks) some run =
    let count : from + length ranks - from + 1 ≡ length ranks + 1 = omega arith in
    ap (λ (b : Bool). cond b [] (record { leg = leg; first = from; count = from + length ranks - from + 1 } ∷ [])) (no_zero from some)
    ∙ ap (λ (n : ℕ). record { leg = leg; first = from; count = n } ∷ []) count
    ∙ ap (λ (n : ℕ). record { leg = leg; first = n; count = length ranks + 1 } ∷ []) (sym run.0)

-- ---- how large it is

front_few : (hits : List ℕ) (first leg : ℕ) → 0 < first → rank_from hits first leg ≤ first
front_few hits first leg some =
    omega (arith, some, ranks_few leg (take (first - 1) (merged hits)), length-take (first - 1) (merged hits))

places_few : (hits : List ℕ) (first count leg : ℕ) → length (ranks_of leg (places_from hits first count)) ≤ count
places_few hits first count leg =
    omega (arith, ranks_few leg (places_from hits first count), length-take count (drop (first - 1) (merged hits)))

is_span : (legs end leg from : ℕ) (ranks : List ℕ) → leg < legs → 1 ≤ from → from + length ranks ≤ end
    → (last : ℕ) → RunTo last from ranks → All (IsSpanOf legs end) (span_of leg ranks)
is_span legs end leg from [] inside some few last run = All-nil (IsSpanOf legs end)
is_span legs end leg from (r ∷ ranks) inside some few last run =
    All-cons (IsSpanOf legs end) _ [] (record {
      leg = inside;
      from_one = omega (arith, run.0, some);
      some = omega arith;
      within = omega (arith, run.0, few);
    }) (All-nil (IsSpanOf legs end))

-- the span of a leg is one of these
pub span_of_leg : (hits : List ℕ) (first count leg : ℕ) → 0 < first → leg < length hits
    → All (IsSpanOf (length hits) (first + count)) (span_of leg (ranks_of leg (places_from hits first count)))
span_of_leg hits first count leg some inside =
    is_span (length hits) (first + count) leg (rank_from hits first leg) (ranks_of leg (places_from hits first count)) inside
    (omega arith) (omega (arith, front_few hits first leg some, places_few hits first count leg)) (get_or hits leg 0)
    (run_of_places hits first count leg)

-- ---- one rank more, and one leg more

own_more : (hits : List ℕ) (first behind leg rank : ℕ) (met new : List Met) → new ≡ set met leg (met_then (get_or met leg none_met) rank)
    → IsNextRank hits first behind (place_at leg rank) → leg < length met
    → get_or met leg none_met ≡ met_of (rank_from hits first leg) (ranks_of leg (places_from hits first behind))
    → get_or new leg none_met ≡ met_of (rank_from hits first leg) (ranks_of leg (places_from hits first (behind + 1)))
own_more hits first behind leg rank met new is next inside so_far =
    let from : ℕ = rank_from hits first leg in
    let ranks : List ℕ = ranks_of leg (places_from hits first behind) in
    ap (λ (ms : List Met). get_or ms leg none_met) is
    ∙ get_or-set_same met leg (met_then (get_or met leg none_met) rank) none_met inside
    ∙ ap (λ (m : Met). met_then m rank) so_far ∙ sym (met_more from rank ranks (omega arith) next.rank)
    ∙ ap (met_of from) (sym next.own)

each_more : (hits : List ℕ) (first behind own rank leg : ℕ) (met new : List Met) → new ≡ set met own (met_then (get_or met own none_met) rank)
    → IsNextRank hits first behind (place_at own rank) → own < length met
    → ((other : ℕ) → other < most_legs → get_or met other none_met ≡ met_of (rank_from hits first other) (ranks_of other (places_from hits first behind)))
    → own < most_legs → leg < most_legs → ((eqb own leg ≡ true) × (own ≡ leg)) ⊎ ((eqb own leg ≡ false) × (own ≢ leg))
    → get_or new leg none_met ≡ met_of (rank_from hits first leg) (ranks_of leg (places_from hits first (behind + 1)))
each_more hits first behind own rank leg met new is next inside so_far small few (inl same) =
    rw (← same.1) (own_more hits first behind own rank met new is next inside (so_far own small))
each_more hits first behind own rank leg met new is next inside so_far small few (inr other) =
    ap (λ (ms : List Met). get_or ms leg none_met) is
    ∙ get_or-set_other met own leg (met_then (get_or met own none_met) rank) none_met (λ e. other.1 (sym e))
    ∙ so_far leg few ∙ ap (met_of (rank_from hits first leg)) (sym (next.others leg other.1))

-- so each leg has what was met of it
pub met_each : (hits : List ℕ) (first behind own rank : ℕ) (met new : List Met) → new ≡ set met own (met_then (get_or met own none_met) rank)
    → IsNextRank hits first behind (place_at own rank) → length hits ≤ most_legs → length met ≡ most_legs
    → ((other : ℕ) → other < most_legs → get_or met other none_met ≡ met_of (rank_from hits first other) (ranks_of other (places_from hits first behind)))
    → (leg : ℕ) → leg < most_legs
    → get_or new leg none_met ≡ met_of (rank_from hits first leg) (ranks_of leg (places_from hits first (behind + 1)))
met_each hits first behind own rank met new is next few size so_far leg inside =
    each_more hits first behind own rank leg met new is next (omega (arith, next.leg, few, size)) so_far (omega (arith, next.leg, few)) inside
    (eqb_tells own leg)

range_more : (from count : ℕ) → range_with_len from (suc count) ≡ range_with_len from count ++ (from + count) ∷ []
range_more from zero = ap (λ (n : ℕ). n ∷ []) (omega arith)
range_more from (suc count) =
    ap (λ (ns : List ℕ). from ∷ ns) (range_more (from + 1) count
    ∙ ap (λ (n : ℕ). range_with_len (from + 1) count ++ n ∷ []) (omega arith))

-- the spans of one leg more
pub spans_more : (legs : ℕ) (places : List Place) → spans_of (legs + 1) places ≡ spans_of legs places ++ span_of legs (ranks_of legs places)
spans_more legs places =
    let span : ℕ → List Span = λ leg. span_of leg (ranks_of leg places) in
    ap (λ (n : ℕ). flat_map span (range_with_len 0 n)) (add-one legs) ∙ ap (flat_map span) (range_more 0 legs)
    ∙ flat_map-append span (range_with_len 0 legs) ((0 + legs) ∷ [])
    ∙ ap (λ (ss : List Span). spans_of legs places ++ ss) (ap (λ (n : ℕ). flat_map span (n ∷ [])) (omega arith) ∙ append-nil (span legs))

-- the span that is pushed is that of the next leg
pub span_pushed : (hits : List ℕ) (first count behind leg : ℕ) (met : List Met) (d : Met) (old new : List Span) → behind ≡ count
    → leg < length hits → length hits ≤ most_legs → length met ≡ most_legs
    → ((other : ℕ) → other < most_legs → get_or met other none_met ≡ met_of (rank_from hits first other) (ranks_of other (places_from hits first behind)))
    → new ≡ old ++ span_met leg (get_or met leg d)
    → new ≡ old ++ span_of leg (ranks_of leg (places_from hits first count))
span_pushed hits first count behind leg met d old new end inside few size each is =
    let from : ℕ = rank_from hits first leg in
    let ranks : List ℕ = ranks_of leg (places_from hits first count) in
    let here : get_or met leg d ≡ get_or met leg none_met = get_or_default met leg d none_met (omega (arith, inside, few, size)) in
    let so : get_or met leg none_met ≡ met_of from ranks =
    each leg (omega (arith, inside, few)) ∙ ap (λ (n : ℕ). met_of from (ranks_of leg (places_from hits first n))) end in
    is ∙ ap (λ (m : Met). old ++ span_met leg m) (here ∙ so)
    ∙ ap (λ (ss : List Span). old ++ ss) (span_is leg (get_or hits leg 0) from ranks (omega arith) (run_of_places hits first count leg))

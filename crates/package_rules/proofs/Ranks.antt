-- The records of a leg stand in the merged order one behind another, from its first to its last
use Rattle.std.proofs.Common.{◌≡◌, ◌≤◌, ◌<◌, ◌+◌, ◌-◌, ℕ, zero, suc, List, [], ◌∷◌, ◌++◌, length, map, get_or, refl, ap, ◌∙◌, arith}
use Rattle.std.proofs.Common.{inl, inr}
use Rattle.std.specs.Prelude.{◌==◌, filter, flat_map, fold, max, nat_le, Bool, true, false, cond, ◌⊎◌}
use Rattle.std.specs.List.{range_with_len}
use Rattle.std.proofs.lemmas.Bool.Decides.{leb_tells}
use Rattle.std.proofs.lemmas.List.{map-append}
use Rattle.std.proofs.lemmas.List.Elements.{filter-append}
use Rattle.std.proofs.lemmas.Bool.{lt-leb}
use Rattle.z_types.specs.MergedOrder.{Place, of_rank, of_rank_from, merged, place_at}
use Rattle.package_rules.specs.Asked.{ranks_of}
use Rattle.package_rules.specs.steps.Spans.{RunTo}

-- ---- one rank

-- one place more, of the leg or of another
if_own : (b own : Bool) (leg : ℕ) (place : Place) (places : List Place) → (place.leg == leg) ≡ own
    → ranks_of leg (cond b (place ∷ places) places) ≡ cond (cond b own false) (place.rank ∷ ranks_of leg places) (ranks_of leg places)
if_own true true leg place places is = grind (arith, is)
if_own true false leg place places is = grind (arith, is)
if_own false own leg place places is = refl

same : (a : ℕ) → (a == a) ≡ true
same a = grind arith

differs : (a b : ℕ) → b < a → (a == b) ≡ false
differs a b h = grind (arith, h)

differs_below : (a b : ℕ) → a < b → (a == b) ≡ false
differs_below a b h = grind (arith, h)

none_if : (b : Bool) (ranks : List ℕ) (rank : ℕ) → cond (cond b false false) (rank ∷ ranks) ranks ≡ ranks
none_if true ranks rank = refl
none_if false ranks rank = refl

-- legs that are counted from behind a leg have no place of it
none_behind : (leg from rank : ℕ) (hits : List ℕ) → leg < from → ranks_of leg (of_rank_from from hits rank) ≡ []
none_behind leg from rank [] h = refl
none_behind leg from rank (n ∷ hits) h =
    if_own (nat_le rank n) false leg (place_at from rank) (of_rank_from (from + 1) hits rank) (differs from leg h)
    ∙ none_if (nat_le rank n) (ranks_of leg (of_rank_from (from + 1) hits rank)) rank
    ∙ none_behind leg (from + 1) rank hits (omega (arith, h))

-- a leg has one place of each rank up to its hits
one_if : (b : Bool) (rank : ℕ) (rest : List ℕ) → rest ≡ [] → cond (cond b true false) (rank ∷ rest) rest ≡ cond b (rank ∷ []) []
one_if true rank rest h = ap (λ (ns : List ℕ). rank ∷ ns) h
one_if false rank rest h = h

one_of_rank : (from place rank : ℕ) (hits : List ℕ) → 1 ≤ rank
    → ranks_of (from + place) (of_rank_from from hits rank) ≡ cond (nat_le rank (get_or hits place 0)) (rank ∷ []) []
one_of_rank from place rank [] some = grind (arith, some)
one_of_rank from zero rank (n ∷ hits) some =
    let own : (from == from + zero) ≡ true = ap (λ (k : ℕ). from == k) (omega arith) ∙ same from in
    if_own (nat_le rank n) true (from + zero) (place_at from rank) (of_rank_from (from + 1) hits rank) own
    ∙ one_if (nat_le rank n) rank (ranks_of (from + zero) (of_rank_from (from + 1) hits rank))
    (none_behind (from + zero) (from + 1) rank hits (omega arith))
one_of_rank from (suc place) rank (n ∷ hits) some =
    if_own (nat_le rank n) false (from + suc place) (place_at from rank) (of_rank_from (from + 1) hits rank)
    (differs_below from (from + suc place) (omega arith))
    ∙ none_if (nat_le rank n) (ranks_of (from + suc place) (of_rank_from (from + 1) hits rank)) rank
    ∙ ap (λ (leg : ℕ). ranks_of leg (of_rank_from (from + 1) hits rank)) (omega arith)
    ∙ one_of_rank (from + 1) place rank hits some

-- ---- all ranks

few_if : (own : Bool) (leg : ℕ) (place : Place) (places : List Place) → (place.leg == leg) ≡ own
    → length (ranks_of leg places) ≤ length places → length (ranks_of leg (place ∷ places)) ≤ length places + 1
few_if true leg place places is few =
    let e : length (ranks_of leg (place ∷ places)) ≡ length (place.rank ∷ ranks_of leg places) =
    ap (λ (ns : List ℕ). length ns) (if_own true true leg place places is) in
    omega (arith, e, few)
few_if false leg place places is few =
    let e : length (ranks_of leg (place ∷ places)) ≡ length (ranks_of leg places) =
    ap (λ (ns : List ℕ). length ns) (if_own true false leg place places is) in
    omega (arith, e, few)

-- a leg has no more ranks than there are places
pub ranks_few : (leg : ℕ) (places : List Place) → length (ranks_of leg places) ≤ length places
ranks_few leg [] = omega arith
ranks_few leg (place ∷ places) = omega (arith, few_if (place.leg == leg) leg place places refl (ranks_few leg places))

pub ranks-append : (leg : ℕ) (ps qs : List Place) → ranks_of leg (ps ++ qs) ≡ ranks_of leg ps ++ ranks_of leg qs
ranks-append leg ps qs =
    ap (map (λ (p : Place). p.rank)) (filter-append (λ (p : Place). p.leg == leg) ps qs)
    ∙ map-append (λ (p : Place). p.rank) (filter (λ (p : Place). p.leg == leg) ps) (filter (λ (p : Place). p.leg == leg) qs)

-- the places of a leg among those of a rank
of_one_rank : (leg : ℕ) (hits : List ℕ) (rank : ℕ) → 1 ≤ rank
    → ranks_of leg (of_rank hits rank) ≡ cond (nat_le rank (get_or hits leg 0)) (rank ∷ []) []
of_one_rank leg hits rank some = ap (λ (l : ℕ). ranks_of l (of_rank hits rank)) (omega arith) ∙ one_of_rank 0 leg rank hits some

none_of_rank : (leg : ℕ) (hits : List ℕ) (rank : ℕ) → 1 ≤ rank → get_or hits leg 0 < rank → ranks_of leg (of_rank hits rank) ≡ []
none_of_rank leg hits rank some above =
    of_one_rank leg hits rank some ∙ ap (λ (b : Bool). cond b (rank ∷ []) []) (lt-leb rank (get_or hits leg 0) above)

-- ranks above the hits of a leg have no place of it
none_above : (leg : ℕ) (hits : List ℕ) (from count : ℕ) → 1 ≤ from → get_or hits leg 0 < from
    → ranks_of leg (flat_map (of_rank hits) (range_with_len from count)) ≡ []
none_above leg hits from zero some above = refl
none_above leg hits from (suc count) some above =
    ranks-append leg (of_rank hits from) (flat_map (of_rank hits) (range_with_len (from + 1) count))
    ∙ ap (λ (ns : List ℕ). ns ++ ranks_of leg (flat_map (of_rank hits) (range_with_len (from + 1) count)))
    (none_of_rank leg hits from some above)
    ∙ none_above leg hits (from + 1) count (omega arith) (omega (arith, above))

run_by : (b : Bool) (last from : ℕ) (rest : List ℕ) → ((b ≡ true) × (from ≤ last)) ⊎ ((b ≡ false) × (rest ≡ []))
    → RunTo last (from + 1) rest → RunTo last from (cond b (from ∷ []) [] ++ rest)
run_by b last from rest (inl h) run = rw h.0 (refl, h.1, run)
run_by b last from rest (inr h) run = rw h.0 (rw h.1 tt)

decided : (leg : ℕ) (hits : List ℕ) (from count : ℕ) → 1 ≤ from
    → ((nat_le from (get_or hits leg 0) ≡ true) × (from ≤ get_or hits leg 0))
    ⊎ ((nat_le from (get_or hits leg 0) ≡ false) × (get_or hits leg 0 < from))
    → ((nat_le from (get_or hits leg 0) ≡ true) × (from ≤ get_or hits leg 0))
    ⊎ ((nat_le from (get_or hits leg 0) ≡ false) × (ranks_of leg (flat_map (of_rank hits) (range_with_len (from + 1) count)) ≡ []))
decided leg hits from count some (inl h) = inl h
decided leg hits from count some (inr h) = inr (h.0, none_above leg hits (from + 1) count (omega arith) (omega (arith, h.1)))

run_from : (leg : ℕ) (hits : List ℕ) (from count : ℕ) → 1 ≤ from
    → RunTo (get_or hits leg 0) from (ranks_of leg (flat_map (of_rank hits) (range_with_len from count)))
run_from leg hits from zero some = tt
run_from leg hits from (suc count) some =
    let rest : List ℕ = ranks_of leg (flat_map (of_rank hits) (range_with_len (from + 1) count)) in
    let parts : ranks_of leg (flat_map (of_rank hits) (range_with_len from (suc count)))
    ≡ cond (nat_le from (get_or hits leg 0)) (from ∷ []) [] ++ rest =
    ranks-append leg (of_rank hits from) (flat_map (of_rank hits) (range_with_len (from + 1) count))
    ∙ ap (λ (ns : List ℕ). ns ++ rest) (of_one_rank leg hits from some) in
    rw parts (run_by (nat_le from (get_or hits leg 0)) (get_or hits leg 0) from rest
    (decided leg hits from count some (leb_tells from (get_or hits leg 0)))
    (run_from leg hits (from + 1) count (omega arith)))

-- the records of a leg in the merged order
pub run_of_all : (leg : ℕ) (hits : List ℕ) → RunTo (get_or hits leg 0) 1 (ranks_of leg (merged hits))
run_of_all leg hits = run_from leg hits 1 (fold max 0 hits) (omega arith)

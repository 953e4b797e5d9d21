-- Where the places of a rank stand in the merged order.
use Rattle.std.proofs.Common.{◌≡◌, ◌≤◌, ◌<◌, ◌+◌, ◌-◌, ℕ, zero, suc, List, [], ◌∷◌, length, take, get_or, refl, sym, ap, ◌∙◌, arith, add-one}
use Rattle.std.specs.Prelude.{flat_map, fold, max, min, nat_le, Bool, true, false, cond, ◌⊎◌, Some, slice_get}
use Rattle.std.proofs.Common.{inl, inr}
use Rattle.std.specs.List.{range_with_len, sum_by}
use Rattle.std.proofs.lemmas.Bool.Decides.{leb_tells}
use Rattle.std.proofs.lemmas.List.Concat.{get_or-flat_map, length-flat_map}
use Rattle.std.proofs.lemmas.List.FromFn.{length-range_with_len, get_or-range_with_len}
use Rattle.std.proofs.lemmas.List.Folds.{length-flat_map-take}
use Rattle.std.proofs.lemmas.List.Sums.{sum_by_more}
use Rattle.std.proofs.lemmas.Option.{slice_get_read, get_or_from_slice_get}
use Rattle.std.proofs.lemmas.Bool.{lt-leb}
use Rattle.z_types.specs.MergedOrder.{Place, of_rank, of_rank_from, merged, place_at}
use Rattle.multi_merge.specs.Ranks.{up_to, IsOfRank}
use Rattle.multi_merge.proofs.UpTo.{up_to-cons, none_come}

-- one leg more has one place more of a rank, where it has a record of that rank
place-step : (b : Bool) (here : Place) (places : List Place)
    → length (cond b (here ∷ places) places) ≡ cond b 1 0 + length places
place-step true here places = omega arith
place-step false here places = omega arith

grown : (n rank : ℕ) → ((nat_le (rank + 1) n ≡ true) × (rank + 1 ≤ n)) ⊎ ((nat_le (rank + 1) n ≡ false) × (n < rank + 1))
    → min n (rank + 1) ≡ min n rank + cond (nat_le (rank + 1) n) 1 0
grown n rank (inl p) = rw p.0 (omega (arith, p.1))
grown n rank (inr p) = rw p.0 (omega (arith, p.1))

-- a rank has as many places as records come with it
up_to-next : (leg rank : ℕ) (hits : List ℕ)
    → up_to (rank + 1) hits ≡ up_to rank hits + length (of_rank_from leg hits (rank + 1))
up_to-next leg rank [] = refl
up_to-next leg rank (n ∷ hits) =
    omega (
      arith,
      up_to-cons (rank + 1) n hits,
      up_to-cons rank n hits,
      up_to-next (leg + 1) rank hits,
      grown n rank (leb_tells (rank + 1) n),
      place-step (nat_le (rank + 1) n) (place_at leg (rank + 1)) (of_rank_from (leg + 1) hits (rank + 1)),
    )

-- the places of the ranks up to one
ranks-up_to : (hits : List ℕ) (all rank : ℕ) → rank ≤ all
    → sum_by (λ r. length (of_rank hits r)) (take rank (range_with_len 1 all)) ≡ up_to rank hits
ranks-up_to hits all zero within = sym (none_come hits)
ranks-up_to hits all (suc rank) within =
    let this : get_or (range_with_len 1 all) rank 0 ≡ rank + 1 =
    get_or-range_with_len 1 all rank 0 (omega arith) ∙ omega arith in
    let places : ℕ → ℕ = λ r. length (of_rank hits r) in
    let more : sum_by places (take (rank + 1) (range_with_len 1 all))
    ≡ sum_by places (take rank (range_with_len 1 all)) + places (get_or (range_with_len 1 all) rank 0) =
    sum_by_more places (range_with_len 1 all) rank 0 (omega (arith, length-range_with_len 1 all)) in
    let moved : places (get_or (range_with_len 1 all) rank 0) ≡ places (rank + 1) = ap places this in
    rw (← add-one rank) (omega (arith, more, moved, ranks-up_to hits all rank (omega arith), up_to-next 0 rank hits))

-- no leg has more hits than the most of them
fold-max : (a : ℕ) (hits : List ℕ) → a ≤ fold max a hits
fold-max a [] = omega arith
fold-max a (n ∷ hits) = omega (arith, fold-max (max a n) hits)

none_above : (leg a rank : ℕ) (hits : List ℕ) → fold max a hits < rank → of_rank_from leg hits rank ≡ []
none_above leg a rank [] h = refl
none_above leg a rank (n ∷ hits) h =
    let off : nat_le rank n ≡ false = lt-leb rank n (omega (arith, fold-max (max a n) hits)) in
    rw off (none_above (leg + 1) (max a n) rank hits h)

-- a position of a rank has fewer records of the rank before it than the rank has
pub within_rank : (hits : List ℕ) (position number behind : ℕ) → IsOfRank hits position number
    → up_to (number - 1) hits + behind + 1 ≡ position → behind < length (of_rank hits number)
within_rank hits position number behind here before =
    let within : position ≤ up_to number hits = here.within in
    let e : number - 1 + 1 ≡ number = omega (arith, here.counted) in
    let next : up_to (number - 1 + 1) hits ≡ up_to (number - 1) hits + length (of_rank hits (number - 1 + 1)) =
    up_to-next 0 (number - 1) hits in
    let here : up_to (number - 1 + 1) hits ≡ up_to number hits = ap (λ n. up_to n hits) e in
    let same : length (of_rank hits (number - 1 + 1)) ≡ length (of_rank hits number) =
    ap (λ n. length (of_rank hits n)) e in
    omega (arith, next, here, same, before, within)

-- a rank of which there is a place is at most that of the leg with the most hits
reached : (hits : List ℕ) (number : ℕ) → 0 < length (of_rank hits number) → number ≤ fold max 0 hits
reached hits number some =
    elim (leb_tells number (fold max 0 hits)) [
      | inl p ↦ p.1
      | inr p ↦ absurd (omega (arith, some, ap (λ (places : List Place). length places) (none_above 0 0 number hits p.1)))
    ]

-- where the places of a rank stand
stands : (hits : List ℕ) (number behind : ℕ) (place : Place) → 0 < number → behind < length (of_rank hits number)
    → (get_or (merged hits) (up_to (number - 1) hits + behind) place ≡ get_or (of_rank hits number) behind place)
    × (up_to (number - 1) hits + behind < length (merged hits))
stands hits number behind place counted inside =
    let all : ℕ = fold max 0 hits in
    let range : List ℕ = range_with_len 1 all in
    let low : number ≤ all = reached hits number (omega (arith, inside)) in
    let this : get_or range (number - 1) 0 ≡ number =
    get_or-range_with_len 1 all (number - 1) 0 (omega arith) ∙ omega arith in
    let before : length (flat_map (of_rank hits) (take (number - 1) range)) ≡ up_to (number - 1) hits =
    length-flat_map (of_rank hits) (take (number - 1) range) ∙ ranks-up_to hits all (number - 1) (omega arith) in
    let there : number - 1 < length range = omega (arith, length-range_with_len 1 all) in
    let same : length (of_rank hits (get_or range (number - 1) 0)) ≡ length (of_rank hits number) =
    ap (λ n. length (of_rank hits n)) this in
    let found : get_or (flat_map (of_rank hits) range) (length (flat_map (of_rank hits) (take (number - 1) range)) + behind) place
    ≡ get_or (of_rank hits (get_or range (number - 1) 0)) behind place =
    get_or-flat_map (of_rank hits) range (number - 1) behind 0 place there (omega (arith, same, inside)) in
    let end : length (flat_map (of_rank hits) (take (number - 1) range)) + length (of_rank hits (get_or range (number - 1) 0))
    ≤ length (flat_map (of_rank hits) range) =
    length-flat_map-take (of_rank hits) range (number - 1) 0 there in (
      ap (λ n. get_or (merged hits) (n + behind) place) (sym before) ∙ found ∙ ap (λ n. get_or (of_rank hits n) behind place) this,
      omega (arith, end, same, before, inside),
    )

-- a position of a rank is that of its place in the rank
pub at_rank : (hits : List ℕ) (position number behind : ℕ) (place : Place) → IsOfRank hits position number
    → up_to (number - 1) hits + behind + 1 ≡ position → slice_get (of_rank hits number) behind ≡ Some place
    → slice_get (merged hits) (position - 1) ≡ Some place
at_rank hits position number behind place here before there =
    let inside : behind < length (of_rank hits number) = within_rank hits position number behind here before in
    let stood = stands hits number behind place here.counted inside in
    let e : position - 1 ≡ up_to (number - 1) hits + behind = omega (arith, before) in
    let is : get_or (of_rank hits number) behind place ≡ place = get_or_from_slice_get (of_rank hits number) behind place place there in
    rw e (slice_get_read (merged hits) (length (merged hits)) (up_to (number - 1) hits + behind) place refl stood.1
    (sym (stood.0 ∙ is)))

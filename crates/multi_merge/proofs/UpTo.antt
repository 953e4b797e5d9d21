-- How the records up to a rank grow with the rank.
use Rattle.std.proofs.Common.{◌≡◌, ◌≤◌, ◌<◌, ◌+◌, ◌-◌, ◌*◌, ℕ, zero, suc, List, [], ◌∷◌, length, drop, get_or}
use Rattle.std.proofs.Common.{refl, arith}
use Rattle.std.specs.Prelude.{min, sum}
use Rattle.std.proofs.lemmas.List.Sums.{sum_by-cons}
use Rattle.std.specs.List.Sorted.{IsPermutation}
use Rattle.std.proofs.lemmas.List.Sorted.{sum_by-IsPermutation}
use Rattle.multi_merge.specs.Ranks.{up_to, IsOfRank}

-- no leg before this one has a record above this rank
abbrev pub AreLow : ℕ → ℕ → List ℕ → Type 0
AreLow i rank hits = (k : ℕ) → k < i → k < length hits → get_or hits k 0 ≤ rank

-- each leg from this one on has a record of this rank
abbrev pub AreHigh : ℕ → ℕ → List ℕ → Type 0
AreHigh i rank hits = (k : ℕ) → i ≤ k → k < length hits → rank ≤ get_or hits k 0

pub up_to-cons : (rank n : ℕ) (hits : List ℕ) → up_to rank (n ∷ hits) ≡ min n rank + up_to rank hits
up_to-cons rank n hits = sum_by-cons (λ x. min x rank) n hits

-- of the legs, the first have no record above a rank, and each of the others has one of each of the next ranks
pub more_ranks : (i gone more : ℕ) (hits : List ℕ) → AreLow i gone hits → AreHigh i (gone + more) hits
    → up_to (gone + more) hits ≡ up_to gone hits + more * length (drop i hits)
more_ranks zero gone more [] low high = grind arith
more_ranks zero gone more (n ∷ hits) low high =
    let first : gone + more ≤ n = high 0 (omega arith) (omega arith) in
    let rest : up_to (gone + more) hits ≡ up_to gone hits + more * length hits =
    more_ranks zero gone more hits (λ k h _. absurd (omega arith)) (λ k _ h. high (suc k) (omega arith) (omega arith)) in
    grind (arith, up_to-cons (gone + more) n hits, up_to-cons gone n hits, rest, first)
more_ranks (suc i) gone more [] low high = grind arith
more_ranks (suc i) gone more (n ∷ hits) low high =
    let first : n ≤ gone = low 0 (omega arith) (omega arith) in
    let rest : up_to (gone + more) hits ≡ up_to gone hits + more * length (drop i hits) =
    more_ranks i gone more hits (λ k h g. low (suc k) (omega arith) (omega arith)) (λ k g h. high (suc k) (omega arith) (omega arith)) in
    grind (arith, up_to-cons (gone + more) n hits, up_to-cons gone n hits, rest, first)

-- where no leg goes on, all records have come
pub all_come : (gone : ℕ) (hits : List ℕ) → AreLow (length hits) gone hits → up_to gone hits ≡ sum hits
all_come gone [] h = refl
all_come gone (n ∷ hits) h =
    let first : n ≤ gone = h 0 (omega arith) (omega arith) in
    let rest : up_to gone hits ≡ sum hits = all_come gone hits (λ k g f. h (suc k) (omega arith) (omega arith)) in
    grind (arith, up_to-cons gone n hits, sum_by-cons (λ x. x) n hits, rest, first)

-- no record has come before the first rank
pub none_come : (hits : List ℕ) → up_to 0 hits ≡ 0
none_come [] = refl
none_come (n ∷ hits) = grind (arith, up_to-cons 0 n hits, none_come hits)

-- the order of the legs does not matter
pub reordered : (rank : ℕ) (hits moved : List ℕ) → IsPermutation hits moved → up_to rank moved ≡ up_to rank hits
reordered rank hits moved p = sum_by-IsPermutation (λ n. min n rank) hits moved p

pub rank_reordered : (position rank : ℕ) (hits moved : List ℕ) → IsPermutation hits moved → IsOfRank moved position rank
    → IsOfRank hits position rank
rank_reordered position rank hits moved p here = record {
  counted = here.counted;
  after = omega (arith, here.after, reordered (rank - 1) hits moved p);
  within = omega (arith, here.within, reordered rank hits moved p);
}

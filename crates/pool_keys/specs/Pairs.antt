-- For contracts alone: pairs of digests and numbers (this project's own)
use Rattle.std.specs.Prelude.{◌≡◌, ◌⊎◌, ℕ, ◌+◌, ◌*◌, ◌^◌, ◌≤◌, ◌<◌, nat_lt, Bool, true, List, length, slice_index_or, Contains, Option, None, Some, IfSome}
use Rattle.pool_keys.specs.declared.index.Pair.{Pair}

-- the pairs, and whether none is lacking that was put in
pub record Indexed : Type 0 where
  pub pairs : List Pair
  pub whole : Bool

-- the pairs stand in the order of their digests, and those of one digest in the order of their
-- numbers
abbrev pub rank : Pair → ℕ
rank p = p.digest * 2 ^ 64 + p.number

abbrev pub is_before : Pair → Pair → Bool
is_before pair p = nat_lt (rank p) (rank pair)

-- a pair stands at a place
pub record IsAt (pairs : List Pair) (place : ℕ) (one : Pair) : Type 0 where
  pub within : place < length pairs
  pub there : one ≡ slice_index_or pairs place one

-- a pair is there, unless some are lacking
abbrev pub Holds : Indexed → Pair → Type 0
Holds index p = index.whole ≡ true → Contains index.pairs p

-- what is there stays there, unless some are lacking
abbrev pub Grows : Indexed → Indexed → Type 0
Grows old new = (p : Pair) → Holds old p → Holds new p

-- what is there was there before, or is that pair
abbrev pub GainsAtMost : Indexed → Pair → Indexed → Type 0
GainsAtMost old one new = (p : Pair) → Contains new.pairs p → Contains old.pairs p ⊎ (p ≡ one)

abbrev pub pair : ℕ → ℕ → Pair
pair digest number = record { digest = digest; number = number }

-- what was found is at most that number
abbrev pub IsAtMost : Option ℕ → ℕ → Type 0
IsAtMost None number = ⊥
IsAtMost (Some found) number = found ≤ number

-- the least number from one on that stands with a digest: it does, and none that does is less than
-- it
pub record IsNext (index : Indexed) (digest from : ℕ) (found : Option ℕ) : Type 0 where
  pub there : IfSome found (λ n. Contains index.pairs (pair digest n))
  pub from_there : IfSome found (λ n. from ≤ n)
  pub least : (m : ℕ) → from ≤ m → m < 2 ^ 64 → Contains index.pairs (pair digest m)
      → IsAtMost found m

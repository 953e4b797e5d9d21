-- The records of several legs as one result set, in round-robin order (this project's own)
use Rattle.std.specs.Prelude.{ℕ, ◌+◌, List, [], ◌∷◌, flat_map, fold, max, min, sum, nat_le, if◌then◌else◌}
use Rattle.std.specs.List.{range_with_len}
use Rattle.z_types.specs.Bounds.{most_number}

-- a place of the result set: the record of this rank, from 1, of this leg, counted from 0 among the
-- legs of the set
pub record Place : Type 0 where
  pub leg : ℕ
  pub rank : ℕ

-- the place of a leg and a rank
abbrev pub place_at : ℕ → ℕ → Place
place_at leg rank = record { leg = leg; rank = rank }

-- the places of a rank: one of each leg with at least `rank` hits, in the order of the legs, which
-- are counted from `leg` on
abbrev pub of_rank_from : (leg : ℕ) (hits : List ℕ) (rank : ℕ) → List Place
of_rank_from leg [] rank = []
of_rank_from leg (n ∷ hits) rank =
    if nat_le rank n then place_at leg rank ∷ of_rank_from (leg + 1) hits rank
    else of_rank_from (leg + 1) hits rank

-- the places of a rank
abbrev pub of_rank : List ℕ → ℕ → List Place
of_rank hits rank = of_rank_from 0 hits rank

-- all places of legs with these hits, by rank and then by leg
abbrev pub merged : List ℕ → List Place
merged hits = flat_map (of_rank hits) (range_with_len 1 (fold max 0 hits))

-- the resultCount (ANSI/NISO Z39.50-2003, 3.2.2): the sum of the hits, at most 2147483647
abbrev pub total : List ℕ → ℕ
total hits = min (sum hits) most_number

-- For contracts alone: how many records stand in the merged order up to a rank (this project's own)
use Rattle.std.specs.Prelude.{ℕ, ◌-◌, ◌<◌, ◌≤◌, List, min}
use Rattle.std.specs.List.{sum_by}

-- the records of these ranks, from 1 up to this one: of each leg as many as it has, at most this
-- rank
abbrev pub up_to : ℕ → List ℕ → ℕ
up_to rank hits = sum_by (λ n. min n rank) hits

-- a position, from 1, is one of a record of this rank
pub record IsOfRank (hits : List ℕ) (position rank : ℕ) : Type 0 where
  pub counted : 0 < rank
  pub after : up_to (rank - 1) hits < position
  pub within : position ≤ up_to rank hits

-- A wire that is lent (this project's own)
use Rattle.std.specs.Prelude.{ℕ}
use Rattle.gw_outside.specs.Happened.{Happened}

-- what was made to happen to its links, and by which reference it is lent
abbrev pub lent_by : (reference : ℕ) → Happened → Happened
lent_by reference happened =
    record { steady = happened.steady; lent = reference; of_target = happened.of_target }

-- A clock in memory (this project's own): its moments in order, and the last again behind them
use Rattle.std.specs.Prelude.{ℕ, ◌-◌, List, length, min, slice_get, unwrap_or}

-- the moment after the first `given`; 0 where there are none at all
abbrev pub moment_after : List ℕ → ℕ → ℕ
moment_after moments given = unwrap_or (slice_get moments (min given (length moments - 1))) 0

-- How a count goes on that others raise as well (this project's own). A count stands
-- still at the last value of 64 bits, so it is told by what was counted, and not by a difference.
use Rattle.std.specs.Prelude.{◌≡◌, ℕ, ◌+◌, ◌-◌, ◌^◌, ◌≤◌}
use Rattle.z_types.specs.Bounds.{within64}

-- the last value of 64 bits
abbrev pub last64 : ℕ
last64 = 2 ^ 64 - 1

-- where a count was what one of several and the others had counted, so it is where that one has
-- counted on: the count rose by just as much
abbrev pub RisesAsMuch : (old new before behind : ℕ) → Type 0
RisesAsMuch old new before behind =
    (others : ℕ) → within64 (others + old) ≡ before → within64 (others + new) ≡ behind

-- where a count was at least what one of several and the others owe, so it is for what that one
-- owes then: the count rose by as much at least
abbrev pub RisesEnough : (old new before behind : ℕ) → Type 0
RisesEnough old new before behind =
    (others : ℕ) → within64 (others + old) ≤ before → within64 (others + new) ≤ behind

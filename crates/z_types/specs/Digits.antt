-- Numbers that decimal digits write (this project's own)
use Rattle.std.specs.Prelude.{ℕ, ◌-◌, List, map}
use Rattle.std.specs.Int.Digits.{number_from_digits_after}

-- the number that digits write behind those of another
abbrev pub number_after : ℕ → List ℕ → ℕ
number_after before digits = number_from_digits_after 10 before (map (λ digit. digit - 48) digits)

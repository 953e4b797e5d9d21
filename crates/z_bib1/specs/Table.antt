-- Tables of numbers, each with what stands beside it (this project's own)
use Rattle.std.specs.Prelude.{ℕ, List, [], ◌∷◌, ◌==◌, if◌then◌else◌}

-- what stands beside a number, and otherwise another thing
abbrev pub beside_or : {A : Type 0} → A → List (ℕ × A) → ℕ → A
beside_or other [] number = other
beside_or other (row ∷ rows) number = if number == row.0 then row.1 else beside_or other rows number

-- Numbers among the words of a command (this project's own): decimal digits, of which a leading
-- zero stands alone
use Rattle.std.specs.Prelude.{ℕ, Bool, false, List, [], ◌∷◌, length, if◌then◌else◌, ◌==◌, ◌&&◌, nat_le, Option, None, Some}
use Rattle.std.specs.Char.{is_ascii_digit}
use Rattle.std.specs.List.{list_all}
use Rattle.z_types.specs.Digits.{number_after}

-- each octet is a decimal digit
unfoldable pub are_digits : List ℕ → Bool
are_digits octets = list_all is_ascii_digit octets

-- decimal digits; a leading zero stands alone
abbrev pub is_decimal : List ℕ → Bool
is_decimal [] = false
is_decimal (first ∷ rest) = if first == 48 then length rest == 0 else are_digits (first ∷ rest)

-- a number, where it lies from one to another
abbrev pub within : (low high : ℕ) → ℕ → Option ℕ
within low high number = if nat_le low number && nat_le number high then Some number else None

-- the number that a word writes, where it lies from one to another
abbrev pub number_in : (low high : ℕ) → List ℕ → Option ℕ
number_in low high word = if is_decimal word then within low high (number_after 0 word) else None

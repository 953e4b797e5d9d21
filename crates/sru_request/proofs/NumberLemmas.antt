-- Numbers past the greatest of a parameter
use Rattle.std.proofs.Common.{◌≡◌, ◌≤◌, ◌<◌, ◌+◌, ◌-◌, ◌*◌, ℕ, false, List, [], ◌∷◌, None, length, nat_le, refl, arith}
use Rattle.z_types.specs.Digits.{number_after}
use Rattle.sru_request.specs.Choices.{in_range}

-- digits behind a number make it no smaller
number_after-le : (before : ℕ) (digits : List ℕ) → before ≤ number_after before digits
number_after-le before [] = omega arith
number_after-le before (digit ∷ digits) = omega (arith, number_after-le (before * 10 + (digit - 48)) digits)

-- no number above the limit is in range
past_range : (least number : ℕ) → 2147483647 < number → in_range least number ≡ None
past_range least number h = let e : nat_le number 2147483647 ≡ false = grind arith in rw e refl

-- a number above a tenth of the limit, with a digit behind it, is not in range
pub in_range-past : (least before : ℕ) (digits : List ℕ) → 214748364 < before → 0 < length digits → in_range least (number_after before digits) ≡ None
in_range-past least before [] above some = absurd (omega arith)
in_range-past least before (digit ∷ digits) above some =
    past_range least (number_after (before * 10 + (digit - 48)) digits) (omega (arith, number_after-le (before * 10 + (digit - 48)) digits))

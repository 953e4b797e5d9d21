-- numbers past a bound
use Rattle.std.proofs.Common.{◌≡◌, ◌≤◌, ◌<◌, ◌+◌, ◌-◌, ◌*◌, ℕ, false, List, [], ◌∷◌, None, nat_le, refl, arith}
use Rattle.std.proofs.Math.Bool.{and-false}
use Rattle.script.specs.Lines.{number_after, within}

-- digits behind a number make it no smaller
number_after-le : (before : ℕ) (digits : List ℕ) → before ≤ number_after before digits
number_after-le before [] = omega arith
number_after-le before (digit ∷ digits) = omega (arith, number_after-le (before * 10 + (digit - 48)) digits)

-- a number above a bound is not within it, whatever digits stand behind it
pub within-past : (low high before : ℕ) (digits : List ℕ) → high < before → within low high (number_after before digits) ≡ None
within-past low high before digits above =
    let more = number_after-le before digits in
    let past : nat_le (number_after before digits) high ≡ false = grind (arith, more) in
    rw (past, and-false (nat_le low (number_after before digits))) refl

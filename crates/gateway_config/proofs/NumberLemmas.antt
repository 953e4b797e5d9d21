-- numbers past a bound
use Rattle.std.proofs.Common.{◌≡◌, ◌<◌, ◌-◌, ℕ, false, List, map, None, nat_le, refl, arith, lit<}
use Rattle.std.proofs.lemmas.Int.Digits.{number_after_ge}
use Rattle.std.proofs.Math.Bool.{and-false}
use Rattle.z_types.specs.Digits.{number_after}
use Rattle.gateway_config.specs.Numbers.{within}

-- a number above a bound is not within it, whatever digits stand behind it
pub within-past : (low high before : ℕ) (digits : List ℕ) → high < before → within low high (number_after before digits) ≡ None
within-past low high before digits above =
    let more = number_after_ge 10 before (map (λ digit. digit - 48) digits) (lit< tt) in
    let past : nat_le (number_after before digits) high ≡ false = grind (arith, more) in
    rw (past, and-false (nat_le low (number_after before digits))) refl

-- Eight octets of which the first is below 128 are a number below 2^63.
use Rattle.std.proofs.Common.{ℕ, ◌+◌, ◌*◌, ◌^◌, ◌<◌, ◌≤◌, lit<, arith}
use Rattle.std.proofs.lemmas.Nat.{mul-le}
use Rattle.std.proofs.Math.Nat.{pow-le-pow_right}

pub eight_octets : (first k : ℕ) → first < 128 → k ≤ 7 → (first + 1) * 256 ^ k ≤ 2 ^ 63
eight_octets first k low few =
    let p = pow-le-pow_right {n = 256} (lit< tt) {i = k} {j = 7} few in
    omega (arith, mul-le (first + 1) (256 ^ k) 128 (256 ^ 7) (omega arith) p)

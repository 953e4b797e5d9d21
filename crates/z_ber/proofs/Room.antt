-- Numbers of a few octets fit 64 bits.
use Rattle.std.proofs.Common.{◌≡◌, ◌∙◌, ℕ, ◌+◌, ◌-◌, ◌*◌, ◌^◌, ◌<◌, ◌≤◌, suc, ap, lit<, arith}
use Rattle.std.proofs.lemmas.Nat.{mul-le}
use Rattle.std.proofs.Math.Nat.{pow-succ', mul_assoc, pow-le-pow_right}

-- a power and the one below it
power : (k : ℕ) → 0 < k → 256 ^ k ≡ 256 * 256 ^ (k - 1)
power k h =
    let e : k ≡ suc (k - 1) = omega arith in
    ap (λ j. 256 ^ j) e ∙ pow-succ' 256 (k - 1)

widened : (n high p octet : ℕ) → octet < 256 → (high + 1) * (256 * p) ≤ n → (256 * high + octet + 1) * p ≤ n
widened n high p octet lt h =
    let up = mul-le (256 * high + octet + 1) p ((high + 1) * 256) p (omega arith) (omega arith) in
    omega (arith, up, mul_assoc (high + 1) 256 p)

-- one octet more
pub room_more : (n high k octet : ℕ) → 0 < k → octet < 256 → (high + 1) * 256 ^ k ≤ n → (256 * high + octet + 1) * 256 ^ (k - 1) ≤ n
room_more n high k octet pos lt h = widened n high (256 ^ (k - 1)) octet lt (omega (arith, ap (λ p. (high + 1) * p) (power k pos)))

-- and the number with it
pub room_now : (n high k octet : ℕ) → 0 < k → octet < 256 → (high + 1) * 256 ^ k ≤ n → 256 * high + octet < n
room_now n high k octet pos lt h =
    let more = room_more n high k octet pos lt h in
    let one : 1 ≤ 256 ^ (k - 1) = pow-le-pow_right {n = 256} (lit< tt) {i = 0} {j = k - 1} (omega arith) in
    let least = mul-le (256 * high + octet + 1) 1 (256 * high + octet + 1) (256 ^ (k - 1)) (omega arith) one in
    omega arith

-- eight octets fit
pub room_first : (k : ℕ) → k ≤ 8 → (0 + 1) * 256 ^ k ≤ 2 ^ 64
room_first k le = omega (arith, pow-le-pow_right {n = 256} (lit< tt) {i = k} {j = 8} le)

-- a number of few octets is small
pub room_of : (r k n : ℕ) → r < 256 ^ k → k ≤ n → r < 256 ^ n
room_of r k n lt le = omega (arith, pow-le-pow_right {n = 256} (lit< tt) {i = k} {j = n} le)

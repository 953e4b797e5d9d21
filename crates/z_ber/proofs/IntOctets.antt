-- The octets of an integer, by its sign.
use Rattle.std.proofs.Common.{◌≡◌, ◌-◌, ℕ, ℤ, pos, negsuc, ◌≤ℤ◌, ◌<ℤ◌, length, map, refl, arith}
use Rattle.std.proofs.lemmas.List.{length-map}
use Rattle.std.proofs.lemmas.Int.{ints}
use Rattle.z_ber.specs.Written.{natural_octets, magnitude, int_octets}

-- there are as many as for the natural number
pub length-int_octets : (z : ℤ) (n : ℕ) → n ≡ length (natural_octets (magnitude z)) → n ≡ length (int_octets z)
unfolding int_octets
length-int_octets (pos k) n e = e
length-int_octets (negsuc k) n e = rw length-map e

-- those of a number that is not negative
pub int_octets-natural : (z : ℤ) → pos 0 ≤ℤ z → int_octets z ≡ natural_octets (magnitude z)
unfolding int_octets
int_octets-natural (pos k) h = refl
int_octets-natural (negsuc k) h = absurd (omega (arith, ints))

-- those of a negative number
pub int_octets-turned : (z : ℤ) → z <ℤ pos 0 → int_octets z ≡ map (λ octet. 255 - octet) (natural_octets (magnitude z))
unfolding int_octets
int_octets-turned (pos k) h = absurd (omega (arith, ints))
int_octets-turned (negsuc k) h = refl

-- Elements as they are written: X.690:2021, 8.1.2 (identifier octets), 8.1.3 (length octets), 8.2,
-- 8.3, 8.6 and 8.19 (contents), 10.1 (definite lengths in the fewest octets).
use Rattle.std.specs.Prelude.{ℕ, ◌+◌, ◌-◌, ◌*◌, ◌/◌, ◌%◌, ◌^◌, ◌<◌, ℤ, pos, negsuc, List, [], ◌∷◌, ◌++◌, length, map, reverse, Bool, nat_lt, if◌then◌else◌, slice_index_or}
use Rattle.std.specs.List.{flat_map}
use Rattle.std.specs.Int.Digits.{digits_of}
use Rattle.z_ber.specs.declared.tag.Tag.{Tag}

-- 8.1.2.2: there are four classes; numbers above 2147483647 are refused, a bound of
-- this project's own
abbrev pub IsTag : Tag → Type 0
IsTag tag = (tag.class < 4) × (tag.number < 2 ^ 31)

-- 8.1.2.4.2 and 8.19.2: the fewest octets of seven bits each, most significant first, with bit 8
-- set on all but the last
unfoldable pub septets : ℕ → List ℕ
septets n = map (λ digit. 128 + digit) (digits_of 128 (n / 128)) ++ (n % 128) ∷ []

-- 8.1.2.5: bit 6 says whether the element is constructed
abbrev pub form_bit : Bool → ℕ
form_bit constructed = if constructed then 32 else 0

-- 8.1.2: class and form, with the number where it is below 31 and otherwise five ones and the
-- number behind them
unfoldable pub tag_octets : Tag → List ℕ
tag_octets tag =
    let lead = 64 * tag.class + form_bit tag.constructed in
    if nat_lt tag.number 31 then (lead + tag.number) ∷ [] else (lead + 31) ∷ septets tag.number

-- 8.1.3.4, 8.1.3.5 and 10.1: the short form below 128, and otherwise a count of octets and the
-- fewest of them
unfoldable pub length_octets : ℕ → List ℕ
length_octets n =
    let digits = digits_of 256 n in
    if nat_lt n 128 then n ∷ [] else (128 + length digits) ∷ digits

-- 8.1.1: an element is its identifier octets, its length octets and its contents
unfoldable pub element : Tag → List ℕ → List ℕ
element tag contents = tag_octets tag ++ length_octets (length contents) ++ contents

-- 8.2.2 and 11.1: all bits of TRUE are set
unfoldable pub bool_octets : Bool → List ℕ
bool_octets value = (if value then 255 else 0) ∷ []

-- 8.3: the fewest octets of a natural number whose first bit, the sign, is zero
unfoldable pub natural_octets : ℕ → List ℕ
natural_octets n =
    let digits = digits_of 256 n in
    if nat_lt (slice_index_or digits 0 128) 128 then digits else 0 ∷ digits

-- the natural number whose octets are written for an integer, as they are or with their bits turned
abbrev pub magnitude : ℤ → ℕ
magnitude (pos n) = n
magnitude (negsuc n) = n

-- octets with each bit turned
abbrev pub turned : List ℕ → List ℕ
turned octets = map (λ octet. 255 - octet) octets

-- 8.3.3: two's complement, in which all bits of -1 - n are those of n turned
unfoldable pub int_octets : ℤ → List ℕ
int_octets (pos n) = natural_octets n
int_octets (negsuc n) = turned (natural_octets n)

-- 8.6.2.1: the first bit of eight is bit 8 of its octet, and the eighth is bit 1
unfoldable pub mirror : ℕ → ℕ
mirror n =
    128 * (n % 2) + 64 * (n / 2 % 2) + 32 * (n / 4 % 2) + 16 * (n / 8 % 2)
    + 8 * (n / 16 % 2) + 4 * (n / 32 % 2) + 2 * (n / 64 % 2) + n / 128 % 2

-- 8.6.2.1: the number of which bit 0 is the first bit of these octets
abbrev pub mirrored_number : List ℕ → ℕ
mirrored_number [] = 0
mirrored_number (octet ∷ rest) = mirrored_number rest * 256 + mirror octet

-- 8.6.2.2 and 11.2: how many bits of the last octet stand behind the last bit that is set
unfoldable pub unused_bits : ℕ → ℕ
unused_bits n = (8 - length (digits_of 2 n) % 8) % 8

-- 8.6.2 and 11.2.2: the count of unused bits, and the bits from the first, which is bit 0 of the
-- number, to the last that is set
unfoldable pub bits_octets : ℕ → List ℕ
bits_octets n = unused_bits n ∷ map mirror (reverse (digits_of 256 n))

-- 8.19.4: the first two numbers are written as one
unfoldable pub oid_octets : List ℕ → List ℕ
oid_octets [] = []
oid_octets (first ∷ []) = []
oid_octets (first ∷ second ∷ rest) = septets (40 * first + second) ++ flat_map septets rest

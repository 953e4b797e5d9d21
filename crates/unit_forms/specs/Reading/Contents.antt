-- What contents octets are read as (X.690:2021, 8.2, 8.3, 8.6, 8.19). More lenient than the written
-- form: every octet but 0 is TRUE, an INTEGER may take more octets than it needs, and a number of
-- an OBJECT IDENTIFIER may begin with 80. The bound of 32 bits is this project's own.
use Rattle.std.specs.Prelude.{ℕ, ◌+◌, ◌-◌, ◌*◌, ◌/◌, ◌%◌, ◌^◌, ℤ, pos, negsuc, List, [], ◌∷◌, ◌++◌, length, map, take, min, Bool, true, false, ◌==◌, Option, Some, None, option_map, option_and_then, nat_lt, nat_le, if◌then◌else◌}
use Rattle.std.specs.Int.Digits.{number_from_digits}
use Rattle.z_types.specs.Oid.{is_oid}
use Rattle.z_ber.specs.Written.{mirrored_number}

-- 8.2: BOOLEAN
abbrev pub truth_in : List ℕ → Option Bool
truth_in [] = None
truth_in (octet ∷ []) = Some (nat_lt 0 octet)
truth_in (octet ∷ second ∷ rest) = None

-- 8.3.3: two's complement, in which all bits of -1 - n are those of n turned
abbrev pub signed : ℕ → List ℕ → ℤ
signed first octets =
    if nat_lt first 128 then pos (number_from_digits 256 octets)
    else negsuc (number_from_digits 256 (map (λ octet. 255 - octet) octets))

-- 8.3: INTEGER, of 1 to 8 octets
unfoldable pub integer_in : List ℕ → Option ℤ
integer_in [] = None
integer_in (first ∷ rest) =
    if nat_le (length rest) 7 then Some (signed first (first ∷ rest)) else None

-- an INTEGER from 0 to 2147483647
abbrev pub in_range : ℤ → Option ℕ
in_range (pos n) = if nat_lt n (2 ^ 31) then Some n else None
in_range (negsuc n) = None

abbrev pub number_in : List ℕ → Option ℕ
number_in octets = option_and_then in_range (integer_in octets)

-- how many bits count: neither the unused ones of the last octet, nor those from number 32 on
abbrev pub bits_that_count : ℕ → ℕ → ℕ
bits_that_count unused count = min 32 (8 * count - unused)

-- 8.6.2: BIT STRING: how many bits of the last octet are unused, and the bits from the first, which
-- is bit 0 of the number
unfoldable pub bits_in : List ℕ → Option ℕ
bits_in [] = None
bits_in (unused ∷ octets) =
    if nat_lt 7 unused then None
    else Some (mirrored_number (take 4 octets) % 2 ^ bits_that_count unused (length octets))

-- 8.19.4: the first two numbers stand as one, 40 times the first and the second
abbrev pub arcs_of : Bool → ℕ → List ℕ
arcs_of first n = if first then min 2 (n / 40) ∷ (n - 40 * min 2 (n / 40)) ∷ [] else n ∷ []

-- the greatest number that may stand so: all but the first two are below 2^32
abbrev pub greatest_arc : Bool → ℕ
greatest_arc first = if first then 2 ^ 32 + 79 else 2 ^ 32 - 1

-- 8.19.2: numbers in base 128, most significant octet first, each octet but a number's last with
-- bit 8 set
abbrev pub arcs_after : Bool → ℕ → List ℕ → Option (List ℕ)
arcs_after first high [] = Some []
arcs_after first high (octet ∷ rest) =
    let n = high * 128 + octet % 128 in
    if nat_lt (greatest_arc first) n then None
    else (if nat_lt octet 128
    then option_map (λ arcs. arcs_of first n ++ arcs) (arcs_after false 0 rest)
    else (if length rest == 0 then None else arcs_after first n rest))

abbrev pub oid_or_none : List ℕ → Option (List ℕ)
oid_or_none arcs = if is_oid arcs then Some arcs else None

-- 8.19: OBJECT IDENTIFIER
unfoldable pub oid_in : List ℕ → Option (List ℕ)
oid_in octets = option_and_then oid_or_none (arcs_after true 0 octets)

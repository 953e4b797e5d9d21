-- The examples that X.690:2021 prints, as equations about the definitions.
use Rattle.std.proofs.Common.{◌≡◌, ℕ, pos, negsuc, true, false, [], ◌∷◌, ◌++◌, refl}
use Rattle.z_ber.specs.declared.tag.Tag.{Tag}
use Rattle.z_ber.specs.Written.{septets, tag_octets, length_octets, element, bool_octets, int_octets, natural_octets, mirror, unused_bits, bits_octets, oid_octets}

-- a tag of a class and a number, of a primitive element
abbrev primitive : ℕ → ℕ → Tag
primitive class number = record { class = class; constructed = false; number = number }

-- the same of a constructed one
abbrev constructed : ℕ → ℕ → Tag
constructed class number = record { class = class; constructed = true; number = number }

-- 8.1.3.4: the length 38 in the short form
short_length : length_octets 38 ≡ 38 ∷ []
unfolding length_octets
short_length = refl

-- 8.1.3.5: the length 201 in the long form
long_length : length_octets 201 ≡ 129 ∷ 201 ∷ []
unfolding length_octets
long_length = refl

-- 8.2.2: TRUE
truth : element (primitive 0 1) (bool_octets true) ≡ 1 ∷ 1 ∷ 255 ∷ []
unfolding element tag_octets length_octets bool_octets
truth = refl

-- 8.3.2, 8.3.3: the first nine bits are not all alike; two's complement
zero_octets : int_octets (pos 0) ≡ 0 ∷ []
unfolding int_octets natural_octets
zero_octets = refl

largest_of_one : int_octets (pos 127) ≡ 127 ∷ []
unfolding int_octets natural_octets
largest_of_one = refl

smallest_of_two : int_octets (pos 128) ≡ 0 ∷ 128 ∷ []
unfolding int_octets natural_octets
smallest_of_two = refl

minus_one : int_octets (negsuc 0) ≡ 255 ∷ []
unfolding int_octets natural_octets
minus_one = refl

minus_128 : int_octets (negsuc 127) ≡ 128 ∷ []
unfolding int_octets natural_octets
minus_128 = refl

minus_129 : int_octets (negsuc 128) ≡ 255 ∷ 127 ∷ []
unfolding int_octets natural_octets
minus_129 = refl

-- 8.6.2, 11.2: no bits; bits 0, 1 and 7; bits 0, 7 and 8
no_bits : bits_octets 0 ≡ 0 ∷ []
unfolding bits_octets unused_bits mirror
no_bits = refl

one_octet_of_bits : bits_octets 131 ≡ 0 ∷ 193 ∷ []
unfolding bits_octets unused_bits mirror
one_octet_of_bits = refl

nine_bits : bits_octets 385 ≡ 7 ∷ 129 ∷ 128 ∷ []
unfolding bits_octets unused_bits mirror
nine_bits = refl

-- 8.8.2: NULL
null : element (primitive 0 5) [] ≡ 5 ∷ 0 ∷ []
unfolding element tag_octets length_octets
null = refl

-- 8.9.3: a SEQUENCE of an IA5String and a BOOLEAN
sequence : element (constructed 0 16) (element (primitive 0 22) (83 ∷ 109 ∷ 105 ∷ 116 ∷ 104 ∷ []) ++ element (primitive 0 1) (bool_octets true)) ≡ 48 ∷ 10 ∷ 22 ∷ 5 ∷ 83 ∷ 109 ∷ 105 ∷ 116 ∷ 104 ∷ 1 ∷ 1 ∷ 255 ∷ []
unfolding element tag_octets length_octets bool_octets
sequence = refl

-- 8.14.3: the VisibleString Jones under five tags, of which the third and the fourth hold the second
type_1 : element (primitive 0 26) (74 ∷ 111 ∷ 110 ∷ 101 ∷ 115 ∷ []) ≡ 26 ∷ 5 ∷ 74 ∷ 111 ∷ 110 ∷ 101 ∷ 115 ∷ []
unfolding element tag_octets length_octets
type_1 = refl

type_2 : element (primitive 1 3) (74 ∷ 111 ∷ 110 ∷ 101 ∷ 115 ∷ []) ≡ 67 ∷ 5 ∷ 74 ∷ 111 ∷ 110 ∷ 101 ∷ 115 ∷ []
unfolding element tag_octets length_octets
type_2 = refl

type_3 : element (constructed 2 2) (element (primitive 1 3) (74 ∷ 111 ∷ 110 ∷ 101 ∷ 115 ∷ [])) ≡ 162 ∷ 7 ∷ 67 ∷ 5 ∷ 74 ∷ 111 ∷ 110 ∷ 101 ∷ 115 ∷ []
unfolding element tag_octets length_octets
type_3 = refl

type_4 : element (constructed 1 7) (element (primitive 1 3) (74 ∷ 111 ∷ 110 ∷ 101 ∷ 115 ∷ [])) ≡ 103 ∷ 7 ∷ 67 ∷ 5 ∷ 74 ∷ 111 ∷ 110 ∷ 101 ∷ 115 ∷ []
unfolding element tag_octets length_octets
type_4 = refl

type_5 : element (primitive 2 2) (74 ∷ 111 ∷ 110 ∷ 101 ∷ 115 ∷ []) ≡ 130 ∷ 5 ∷ 74 ∷ 111 ∷ 110 ∷ 101 ∷ 115 ∷ []
unfolding element tag_octets length_octets
type_5 = refl

-- 8.19.5: the object identifier 2.999.3, and 2.100.3 of the edition of 2002
identifier : element (primitive 0 6) (oid_octets (2 ∷ 999 ∷ 3 ∷ [])) ≡ 6 ∷ 3 ∷ 136 ∷ 55 ∷ 3 ∷ []
unfolding element tag_octets length_octets oid_octets septets
identifier = refl

older_identifier : element (primitive 0 6) (oid_octets (2 ∷ 100 ∷ 3 ∷ [])) ≡ 6 ∷ 3 ∷ 129 ∷ 52 ∷ 3 ∷ []
unfolding element tag_octets length_octets oid_octets septets
older_identifier = refl

-- 8.1.2.4: the last number in one octet, and numbers above 30 behind five ones
last_low_tag : tag_octets (primitive 2 30) ≡ 158 ∷ []
unfolding tag_octets
last_low_tag = refl

first_high_tag : tag_octets (primitive 2 31) ≡ 159 ∷ 31 ∷ []
unfolding tag_octets septets
first_high_tag = refl

high_tag : tag_octets (constructed 2 201) ≡ 191 ∷ 129 ∷ 73 ∷ []
unfolding tag_octets septets
high_tag = refl

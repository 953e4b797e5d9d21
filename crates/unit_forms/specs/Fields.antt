-- Fields of a unit as they are written (ANSI/NISO Z39.50-2003, the definition of APDUs; X.690:2021,
-- 8.14): context tags in place of the types' own
use Rattle.std.specs.Prelude.{ℕ, pos, ℤ, Bool, true, false, List, [], Option, None, Some}
use Rattle.z_ber.specs.declared.tag.Tag.{Tag}
use Rattle.z_ber.specs.Written.{element, int_octets, bool_octets, bits_octets, oid_octets}
use Rattle.unit_forms.specs.Tags as tag
use Rattle.unit_forms.specs.Tags.{reference_id}

-- the context tag of a number, around contents that are no elements
abbrev pub primitive : ℕ → Tag
primitive number = record { class = 2; constructed = false; number = number }

-- the context tag of a number, around elements
abbrev pub constructed : ℕ → Tag
constructed number = record { class = 2; constructed = true; number = number }

-- SEQUENCE (X.690, 8.9)
abbrev pub sequence : Tag
sequence = record { class = 0; constructed = true; number = tag.sequence }

-- the tag of an EXTERNAL (X.690, 8.18)
abbrev pub external : Tag
external = record { class = 0; constructed = true; number = tag.external }

-- the tag of an OBJECT IDENTIFIER (X.690, 8.19)
abbrev pub object_identifier_tag : Tag
object_identifier_tag = record { class = 0; constructed = false; number = tag.object_identifier }

-- the tag of an INTEGER (X.690, 8.3)
abbrev pub integer_tag : Tag
integer_tag = record { class = 0; constructed = false; number = tag.integer }

-- the tag of a GeneralString (X.690, 8.23)
abbrev pub general_string_tag : Tag
general_string_tag = record { class = 0; constructed = false; number = tag.general_string }

-- OBJECT IDENTIFIER
abbrev pub object_identifier : List ℕ → List ℕ
object_identifier arcs = element object_identifier_tag (oid_octets arcs)

-- INTEGER
abbrev pub integer : ℕ → List ℕ
integer value = element integer_tag (int_octets (pos value))

-- GeneralString
abbrev pub general_string : List ℕ → List ℕ
general_string octets = element general_string_tag octets

-- a field of octets
abbrev pub octets_field : ℕ → List ℕ → List ℕ
octets_field number octets = element (primitive number) octets

-- a field of an integer
abbrev pub integer_field : ℕ → ℤ → List ℕ
integer_field number value = element (primitive number) (int_octets value)

-- a field of a number that is not negative
abbrev pub number_field : ℕ → ℕ → List ℕ
number_field number value = integer_field number (pos value)

-- a field of a truth value
abbrev pub boolean_field : ℕ → Bool → List ℕ
boolean_field number value = element (primitive number) (bool_octets value)

-- a field of bits
abbrev pub bits_field : ℕ → ℕ → List ℕ
bits_field number value = element (primitive number) (bits_octets value)

-- a field of an object identifier
abbrev pub identifier_field : ℕ → List ℕ → List ℕ
identifier_field number arcs = element (primitive number) (oid_octets arcs)

-- a field of elements
abbrev pub tree_field : ℕ → List ℕ → List ℕ
tree_field number elements = element (constructed number) elements

-- a field that may be absent
abbrev pub optional : {A : Type 0} → (A → List ℕ) → Option A → List ℕ
optional spell None = []
optional spell (Some x) = spell x

-- the referenceId, the first field of each unit where it is there
abbrev pub ref_id_field : Option (List ℕ) → List ℕ
ref_id_field ref_id = optional (octets_field reference_id) ref_id

-- Kinds of fields (X.690:2021, 8.2 to 8.9, 8.19, 8.23), and the rows that tables of fields have of
-- them (this project's own).
use Rattle.std.specs.Prelude.{ℕ, ℤ, List, [], ◌∷◌, Bool, false, Option, Result, Ok, Err, if◌then◌else◌}
use Rattle.z_ber.specs.declared.tag.Tag.{Tag}
use Rattle.z_ber.specs.Element.{Forest}
use Rattle.unit_forms.specs.declared.refusal.Refusal.{Refusal}
use Rattle.unit_forms.specs.declared.refusal.Refusal.TheVariants.{Missing, BadValue, LeftOut}
use Rattle.unit_forms.specs.Fields.{primitive}
use Rattle.unit_forms.specs.Reading.Contents.{truth_in, integer_in, number_in, bits_in, oid_in}
use Rattle.unit_forms.specs.Reading.Elements.{Field, has_tag, first_of}
use Rattle.unit_forms.specs.Reading.Answers.{value_or, read_or, read_if, each}

-- a string is read in primitive form alone; in constructed form it is left out
abbrev pub octets_of : Field → Result (List ℕ) Refusal
octets_of field =
    if field.tag.constructed then Err (LeftOut field.tag.number) else Ok field.contents

-- BIT STRING, likewise
abbrev pub bits_of : Field → Result ℕ Refusal
bits_of field =
    if field.tag.constructed then Err (LeftOut field.tag.number)
    else value_or (BadValue field.tag.number) (bits_in field.contents)

-- any other primitive type: its form and its contents are as it is read, or its value is bad
abbrev pub primitive_of : {A : Type 0} → (List ℕ → Option A) → Field → Result A Refusal
primitive_of value field =
    if field.tag.constructed then Err (BadValue field.tag.number)
    else value_or (BadValue field.tag.number) (value field.contents)

abbrev pub truth_of : Field → Result Bool Refusal
truth_of field = primitive_of truth_in field

-- an INTEGER of up to 8 octets
abbrev pub integer_of : Field → Result ℤ Refusal
integer_of field = primitive_of integer_in field

-- an INTEGER from 0 to 2147483647
abbrev pub number_of : Field → Result ℕ Refusal
number_of field = primitive_of number_in field

abbrev pub oid_of : Field → Result (List ℕ) Refusal
oid_of field = primitive_of oid_in field

-- a constructed type: what the elements in it are read as
abbrev pub within : {A : Type 0} → (Forest → Result A Refusal) → Field → Result A Refusal
within read field =
    if field.tag.constructed then read field.inner else Err (BadValue field.tag.number)

-- the context tag of a number
abbrev pub context : ℕ → Tag
context number = primitive number

-- the universal tag of a number
abbrev pub universal : ℕ → Tag
universal number = record { class = 0; constructed = false; number = number }

-- a field with one of these tags, which has to be there; the number is told where it is not
abbrev pub required_of : {A : Type 0} → ℕ → List Tag → (Field → Result A Refusal) → Forest
    → Result A Refusal
required_of number choice read fields = read_or (Missing number) read (first_of choice fields)

abbrev pub required : {A : Type 0} → ℕ → (Field → Result A Refusal) → Forest → Result A Refusal
required number read fields = required_of number (context number ∷ []) read fields

abbrev pub required_universal : {A : Type 0} → ℕ → (Field → Result A Refusal) → Forest
    → Result A Refusal
required_universal number read fields = required_of number (universal number ∷ []) read fields

-- one that may be absent
abbrev pub optional_of : {A : Type 0} → List Tag → (Field → Result A Refusal) → Forest
    → Result (Option A) Refusal
optional_of choice read fields = read_if read (first_of choice fields)

abbrev pub optional : {A : Type 0} → ℕ → (Field → Result A Refusal) → Forest
    → Result (Option A) Refusal
optional number read fields = optional_of (context number ∷ []) read fields

-- each element with this tag; others are skipped
abbrev pub each_with : {A : Type 0} → Tag → (Field → Result A Refusal) → Forest
    → Result (List A) Refusal
each_with tag read fields = each (λ field. has_tag field.tag tag) read fields

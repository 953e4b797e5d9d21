-- For contracts alone: records as they are read, and what a response has in their place (ANSI/NISO
-- Z39.50-2003, Records, NamePlusRecord; X.690:2021, 8.18).
use Rattle.std.specs.Prelude.{ℕ, List, [], ◌∷◌, ◌==◌, Option, Some, None, Result, Ok, Err, if◌then◌else◌}
use Rattle.z_types.specs.declared.diagnostic.Diag.{Diag}
use Rattle.z_types.specs.declared.records.Form.{Form}
use Rattle.z_types.specs.declared.records.Form.TheVariants.{Single, Octets, Arbitrary}
use Rattle.z_types.specs.declared.records.Item.{Item}
use Rattle.z_types.specs.declared.records.Item.TheVariants.{Record, Surrogate}
use Rattle.z_types.specs.declared.records.NamedRecord.{NamedRecord}
use Rattle.z_types.specs.declared.records.Body.{Body}
use Rattle.z_types.specs.declared.records.Body.TheVariants as body
use Rattle.z_ber.specs.declared.tag.Tag.{Tag}
use Rattle.z_ber.specs.Element.{Forest}
use Rattle.unit_forms.specs.declared.refusal.Refusal.{Refusal}
use Rattle.unit_forms.specs.declared.refusal.Refusal.TheVariants.{BadValue, LeftOut}
use Rattle.unit_forms.specs.Reading.Contents.{bits_in}
use Rattle.unit_forms.specs.Reading.Elements.{Field, first_element, other_elements, first_of}
use Rattle.unit_forms.specs.Reading.Answers.{◌⊗◌, read_as, value_or}
use Rattle.unit_forms.specs.Reading.Rows.{octets_of, oid_of, context, universal, required, required_of, optional, within, each_with, required_universal}
use Rattle.unit_forms.specs.Reading.Diagnostics.{diag_of}
use Rattle.unit_forms.specs.Tags as numbers

-- whether octets are the contents of a BIT STRING, which are kept as they are
abbrev pub kept_if : List ℕ → Option ℕ → Option (List ℕ)
kept_if octets None = None
kept_if octets (Some bits) = Some octets

-- one whole element, of which the octets are these
abbrev pub single_or_none : Option Field → Option Field → List ℕ → Option (List ℕ)
single_or_none None second octets = None
single_or_none (Some first) None octets = Some octets
single_or_none (Some first) (Some second) octets = None

abbrev pub is_single : Forest → List ℕ → Option (List ℕ)
is_single elements octets =
    single_or_none (first_element elements) (first_element (other_elements elements)) octets

-- X.690, 8.18: single-ASN1-type [0], octet-aligned [1], arbitrary [2]
abbrev pub encoding_choice : List Tag
encoding_choice =
    context numbers.single_asn1_type ∷ context numbers.octet_aligned
    ∷ context numbers.arbitrary ∷ []

abbrev pub encoding_of : Field → Result (Form × List ℕ) Refusal
encoding_of field =
    if field.tag.number == numbers.single_asn1_type
    then read_as (λ octets. (Single, octets))
    (within
    (λ inner. value_or (BadValue numbers.single_asn1_type) (is_single inner field.contents)) field)
    else (if field.tag.number == numbers.octet_aligned
    then read_as (λ octets. (Octets, octets)) (octets_of field)
    else (if field.tag.constructed then Err (LeftOut numbers.arbitrary)
    else read_as (λ octets. (Arbitrary, octets))
    (value_or (BadValue numbers.arbitrary) (kept_if field.contents (bits_in field.contents)))))

abbrev as_record : List ℕ × (Form × List ℕ) → Item
as_record (syntax, (form, octets)) = Record syntax form octets

-- X.690, 8.18: EXTERNAL: direct-reference, and the encoding
unfoldable pub external_in : Forest → Result Item Refusal
external_in fields =
    read_as as_record (
    required_universal numbers.object_identifier oid_of fields
    ⊗ required_of numbers.single_asn1_type encoding_choice encoding_of fields)

-- retrievalRecord [1], round an EXTERNAL, or surrogateDiagnostic [2], round a diagnostic
abbrev pub item_of : Field → Result Item Refusal
item_of field =
    if field.tag.number == numbers.retrieval_record
    then within (required_universal numbers.external (within external_in)) field
    else read_as Surrogate (within (required_universal numbers.sequence diag_of) field)

unfoldable pub item_in : Forest → Result Item Refusal
item_in elements =
    required_of numbers.retrieval_record
    (context numbers.retrieval_record ∷ context numbers.surrogate_diagnostic ∷ []) item_of elements

abbrev as_named : Option (List ℕ) × Item → NamedRecord
as_named (name, item) = record { name = name; item = item }

-- NamePlusRecord: databaseName [0] OPTIONAL, record [1]
unfoldable pub named_in : Forest → Result NamedRecord Refusal
named_in fields =
    read_as as_named (
    optional numbers.name_of_name_plus_record octets_of fields
    ⊗ required numbers.record_of_name_plus_record (within item_in) fields)

abbrev pub named_of : Field → Result NamedRecord Refusal
named_of field = within named_in field

-- records one after another, each a SEQUENCE
unfoldable pub records_in : Forest → Result (List NamedRecord) Refusal
records_in elements = each_with (universal numbers.sequence) named_of elements

-- diagnostics one after another, each a SEQUENCE
unfoldable pub diags_in : Forest → Result (List Diag) Refusal
diags_in elements = each_with (universal numbers.sequence) diag_of elements

-- Records: responseRecords [28], nonSurrogateDiagnostic [130], multipleNonSurDiagnostics [205]
abbrev pub body_of : Field → Result Body Refusal
body_of field =
    if field.tag.number == numbers.response_records
    then read_as body.Records (within records_in field)
    else (if field.tag.number == numbers.non_surrogate_diagnostic
    then read_as body.Diag (diag_of field)
    else read_as body.Diags (within diags_in field))

abbrev pub body_or_none : Option Field → Result Body Refusal
body_or_none None = Ok body.None
body_or_none (Some field) = body_of field

unfoldable pub body_in : Forest → Result Body Refusal
body_in fields =
    body_or_none (first_of (
    context numbers.response_records
    ∷ context numbers.non_surrogate_diagnostic
    ∷ context numbers.multiple_non_surrogate_diagnostics ∷ []) fields)

-- Diagnostics and records as they are written (ANSI/NISO Z39.50-2003, DefaultDiagFormat, Records
-- and NamePlusRecord)
use Rattle.std.specs.Prelude.{ℕ, List, [], ◌∷◌, ◌++◌, length}
use Rattle.std.specs.List.{flat_map}
use Rattle.z_ber.specs.declared.tag.Tag.{Tag}
use Rattle.z_types.specs.Bounds.{within64}
use Rattle.z_ber.specs.Written.{element}
use Rattle.z_types.specs.declared.diagnostic.Diag.{Diag}
use Rattle.z_types.specs.declared.records.Form.{Form}
use Rattle.z_types.specs.declared.records.Form.TheVariants.{Single, Octets, Arbitrary}
use Rattle.z_types.specs.declared.records.Item.{Item}
use Rattle.z_types.specs.declared.records.Item.TheVariants.{Record, Surrogate}
use Rattle.z_types.specs.declared.records.NamedRecord.{NamedRecord}
use Rattle.z_types.specs.declared.records.Body.{Body}
use Rattle.z_types.specs.declared.records.Body.TheVariants as body
use Rattle.unit_forms.specs.Fields.{primitive, constructed, sequence, external, object_identifier, integer, general_string, octets_field, tree_field, optional}
use Rattle.unit_forms.specs.Tags as tag

-- DefaultDiagFormat: the diagnostic set, the condition and the additional information
unfoldable pub diag_fields : Diag → List ℕ
diag_fields diag =
    object_identifier diag.set ++ integer diag.condition ++ general_string diag.addinfo

-- a diagnostic as a DiagRec, with the tag of its SEQUENCE
abbrev pub diag_octets : Diag → List ℕ
diag_octets diag = element sequence (diag_fields diag)

-- the encoding of an EXTERNAL's value (X.690, 8.18): single-ASN1-type, octet-aligned or arbitrary
abbrev pub encoding_tag : Form → Tag
encoding_tag Single = constructed tag.single_asn1_type
encoding_tag Octets = primitive tag.octet_aligned
encoding_tag Arbitrary = primitive tag.arbitrary

-- EXTERNAL (X.690, 8.18): the syntax, and the record's octets as they stand
abbrev pub external_octets : List ℕ → Form → List ℕ → List ℕ
external_octets syntax form bytes =
    element external (object_identifier syntax ++ element (encoding_tag form) bytes)

-- a record, or a diagnostic in its place
unfoldable pub item_octets : Item → List ℕ
item_octets (Record syntax form bytes) =
    tree_field tag.retrieval_record (external_octets syntax form bytes)
item_octets (Surrogate diag) = tree_field tag.surrogate_diagnostic (diag_octets diag)

-- the fields of a NamePlusRecord
abbrev pub named_fields : NamedRecord → List ℕ
named_fields named =
    optional (octets_field tag.name_of_name_plus_record) named.name
    ++ tree_field tag.record_of_name_plus_record (item_octets named.item)

-- NamePlusRecord
unfoldable pub named_octets : NamedRecord → List ℕ
named_octets named = element sequence (named_fields named)

-- the weight of a record: its octets as an element of responseRecords, at most the last number of
-- 64 bits
abbrev pub weight : NamedRecord → ℕ
weight named = within64 (length (named_octets named))

-- Records, the records of a response; an empty list of them is left out
unfoldable pub body_octets : Body → List ℕ
body_octets body.None = []
body_octets (body.Records []) = []
body_octets (body.Records (first ∷ rest)) =
    tree_field tag.response_records (flat_map named_octets (first ∷ rest))
body_octets (body.Diag diag) = tree_field tag.non_surrogate_diagnostic (diag_fields diag)
body_octets (body.Diags diags) =
    tree_field tag.multiple_non_surrogate_diagnostics (flat_map diag_octets diags)

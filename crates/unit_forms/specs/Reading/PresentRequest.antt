-- A Present as it is read (ANSI/NISO Z39.50-2003, PresentRequest).
use Rattle.std.specs.Prelude.{ℕ, ℤ, List, Option, Result}
use Rattle.z_types.specs.declared.requests.Asked.{Asked}
use Rattle.z_types.specs.declared.requests.Present.{Present}
use Rattle.z_ber.specs.Element.{Forest}
use Rattle.unit_forms.specs.declared.refusal.Refusal.{Refusal}
use Rattle.unit_forms.specs.Reading.Answers.{◌⊗◌, read_as}
use Rattle.unit_forms.specs.Reading.ElementNames.{composition_in}
use Rattle.unit_forms.specs.Reading.Rows.{octets_of, integer_of, number_of, oid_of, required, optional}
use Rattle.unit_forms.specs.Tags as numbers

-- referenceId [2] OPTIONAL, resultSetId [31], resultSetStartPoint [30], numberOfRecordsRequested
-- [29]
abbrev pub Place : Type 0
Place = Option (List ℕ) × (List ℕ × (ℤ × ℕ))

unfoldable pub place_in : Forest → Result Place Refusal
place_in fields =
    optional numbers.reference_id octets_of fields
    ⊗ required numbers.result_set_id octets_of fields
    ⊗ required numbers.result_set_start_point integer_of fields
    ⊗ required numbers.number_of_records_requested number_of fields

-- recordComposition OPTIONAL, preferredRecordSyntax [104] OPTIONAL
abbrev pub RecordForm : Type 0
RecordForm = Asked (Option (List ℕ)) × Option (List ℕ)

unfoldable pub form_in : Forest → Result RecordForm Refusal
form_in fields = composition_in fields ⊗ optional numbers.preferred_record_syntax oid_of fields

abbrev as_present : Place × RecordForm → Present
as_present ((ref_id, (set_name, (start, number))), (element, syntax)) = record {
  ref_id = ref_id;
  set_name = set_name;
  start = start;
  number = number;
  element = element;
  syntax = syntax;
}

-- PresentRequest
unfoldable pub present_in : Forest → Result Present Refusal
present_in fields = read_as as_present (place_in fields ⊗ form_in fields)

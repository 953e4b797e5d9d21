-- A Close as it is read (ANSI/NISO Z39.50-2003, Close).
use Rattle.std.specs.Prelude.{ℕ, List, Option, Result}
use Rattle.z_types.specs.declared.requests.Close.{Close}
use Rattle.z_ber.specs.Element.{Forest}
use Rattle.unit_forms.specs.declared.refusal.Refusal.{Refusal}
use Rattle.unit_forms.specs.Reading.Answers.{◌⊗◌, read_as}
use Rattle.unit_forms.specs.Reading.Rows.{octets_of, number_of, required, optional}
use Rattle.unit_forms.specs.Tags as numbers

abbrev as_close : Option (List ℕ) × (ℕ × Option (List ℕ)) → Close
as_close (ref_id, (reason, info)) = record { ref_id = ref_id; reason = reason; info = info }

-- referenceId [2] OPTIONAL, closeReason [211], diagnosticInformation [3] OPTIONAL
unfoldable pub close_in : Forest → Result Close Refusal
close_in fields =
    read_as as_close (
    optional numbers.reference_id octets_of fields
    ⊗ required numbers.close_reason number_of fields
    ⊗ optional numbers.diagnostic_information octets_of fields)

-- Diagnostics as they are read (ANSI/NISO Z39.50-2003, DefaultDiagFormat), and those of forms that
-- are not served.
use Rattle.std.specs.Prelude.{ℕ, List, [], ◌∷◌, Result, codes}
use Rattle.std.specs.Fmt.{decimal}
use Rattle.z_types.specs.Bib1.{bib1}
use Rattle.z_types.specs.declared.conditions.Condition.TheVariants.{PresentRequestOutOfRange, ElementSetNameNotValid, QueryTypeNotSupported, MalformedQuery, OperatorUnsupported}
use Rattle.z_types.specs.declared.diagnostic.Diag.{Diag}
use Rattle.z_ber.specs.Element.{Forest}
use Rattle.unit_forms.specs.declared.refusal.Refusal.{Refusal}
use Rattle.unit_forms.specs.Tags as numbers
use Rattle.unit_forms.specs.Reading.Elements.{Field}
use Rattle.unit_forms.specs.Reading.Answers.{◌⊗◌, read_as}
use Rattle.unit_forms.specs.Reading.Rows.{octets_of, number_of, oid_of, universal, required_of, within, required_universal}

abbrev as_diag : List ℕ × (ℕ × List ℕ) → Diag
as_diag (set, (condition, addinfo)) = record { set = set; condition = condition; addinfo = addinfo }

-- diagnosticSetId, an OBJECT IDENTIFIER; condition, an INTEGER; addinfo, a VisibleString or a
-- GeneralString
unfoldable pub diag_in : Forest → Result Diag Refusal
diag_in fields =
    read_as as_diag (
    required_universal numbers.object_identifier oid_of fields
    ⊗ required_universal numbers.integer number_of fields
    ⊗ required_of numbers.general_string
    (universal numbers.visible_string ∷ universal numbers.general_string ∷ []) octets_of fields)

-- DefaultDiagFormat, in its own tag or another
abbrev pub diag_of : Field → Result Diag Refusal
diag_of field = within diag_in field

-- a query of another type than 1 and 101
abbrev pub other_query_type : ℕ → Diag
other_query_type number = bib1 QueryTypeNotSupported (decimal number)

-- an operand, a value or a term of a form that is not served
abbrev pub other_form : ℕ → Diag
other_form number = bib1 MalformedQuery (decimal number)

abbrev pub proximity : Diag
proximity = bib1 OperatorUnsupported (codes "prox")

-- element set names by database
abbrev pub specific_names : Diag
specific_names = bib1 ElementSetNameNotValid (codes "specific")

-- a composition other than simple
abbrev pub complex_composition : Diag
complex_composition = bib1 ElementSetNameNotValid (codes "complex")

abbrev pub additional_ranges : Diag
additional_ranges = bib1 PresentRequestOutOfRange (codes "ranges")

-- Element set names as they are read (ANSI/NISO Z39.50-2003, ElementSetNames), and the composition
-- of records that a Present asks for.
use Rattle.std.specs.Prelude.{ℕ, List, [], ◌∷◌, ◌==◌, Option, Some, None, Result, Ok, if◌then◌else◌}
use Rattle.z_types.specs.declared.requests.Asked.{Asked}
use Rattle.z_types.specs.declared.requests.Asked.TheVariants.{Good, Bad}
use Rattle.z_ber.specs.Element.{Forest}
use Rattle.unit_forms.specs.declared.refusal.Refusal.{Refusal}
use Rattle.unit_forms.specs.Reading.Elements.{Field, first_of}
use Rattle.unit_forms.specs.Reading.Answers.{read_as, asked_as}
use Rattle.unit_forms.specs.Reading.Rows.{octets_of, context, required_of, within}
use Rattle.unit_forms.specs.Reading.Diagnostics.{specific_names, complex_composition, additional_ranges}
use Rattle.unit_forms.specs.Tags as numbers

-- genericElementSetName [0], or databaseSpecific [1], which is not served
abbrev pub name_of : Field → Result (Asked (List ℕ)) Refusal
name_of field =
    if field.tag.number == numbers.generic_element_set_name then read_as Good (octets_of field)
    else Ok (Bad specific_names)

unfoldable pub names_in : Forest → Result (Asked (List ℕ)) Refusal
names_in elements =
    required_of numbers.generic_element_set_name
    (context numbers.generic_element_set_name ∷ context numbers.database_specific ∷ [])
    name_of elements

abbrev pub names_of : Field → Result (Asked (List ℕ)) Refusal
names_of field = within names_in field

-- recordComposition: simple [19], or complex [209], which is not served
abbrev pub composition_of : Field → Result (Asked (Option (List ℕ))) Refusal
composition_of field =
    if field.tag.number == numbers.record_composition_simple
    then read_as (asked_as Some) (names_of field) else Ok (Bad complex_composition)

abbrev pub composition_or_none : Option Field → Result (Asked (Option (List ℕ))) Refusal
composition_or_none None = Ok (Good None)
composition_or_none (Some field) = composition_of field

-- additionalRanges [212], in any form, are not served
abbrev pub without_ranges : Option Field → Asked (Option (List ℕ)) → Asked (Option (List ℕ))
without_ranges None asked = asked
without_ranges (Some field) asked = Bad additional_ranges

unfoldable pub composition_in : Forest → Result (Asked (Option (List ℕ))) Refusal
composition_in fields =
    read_as (without_ranges (first_of (context numbers.additional_ranges ∷ []) fields))
    (composition_or_none (first_of
    (context numbers.record_composition_simple ∷ context numbers.record_composition_complex ∷ [])
    fields))

-- Attributes and terms as they are read (ANSI/NISO Z39.50-2003, AttributesPlusTerm,
-- AttributeElement, Term).
use Rattle.std.specs.Prelude.{ℕ, List, [], ◌∷◌, Bool, true, ◌==◌, Option, Some, None, Result, Ok, Err, if◌then◌else◌}
use Rattle.z_types.specs.declared.query.Attr.{Attr}
use Rattle.z_types.specs.declared.query.Term.{Term}
use Rattle.z_types.specs.declared.query.Term.TheVariants.{General, Number, Words}
use Rattle.z_types.specs.declared.requests.Asked.{Asked}
use Rattle.z_types.specs.declared.requests.Asked.TheVariants.{Good, Bad}
use Rattle.z_ber.specs.declared.tag.Tag.{Tag}
use Rattle.z_ber.specs.Element.{Forest}
use Rattle.unit_forms.specs.declared.refusal.Refusal.{Refusal}
use Rattle.unit_forms.specs.declared.refusal.Refusal.TheVariants.{BadValue}
use Rattle.unit_forms.specs.Reading.Elements.{Field, has_tag, first_of}
use Rattle.unit_forms.specs.Reading.Answers.{◌⊗◌, read_as, each, both_asked, asked_as, all_asked}
use Rattle.unit_forms.specs.Reading.Rows.{octets_of, integer_of, number_of, oid_of, context, universal, required, required_of, optional, within}
use Rattle.unit_forms.specs.Reading.Diagnostics.{other_form}
use Rattle.unit_forms.specs.Tags as numbers

-- attributeValue: numeric [121], or complex [224], which is not served
abbrev pub value_of : Field → Result (Asked ℕ) Refusal
value_of field =
    if field.tag.number == numbers.attribute_value_complex
    then Ok (Bad (other_form numbers.attribute_value_complex))
    else read_as Good (number_of field)

abbrev pub value_choice : List Tag
value_choice =
    context numbers.attribute_value_numeric ∷ context numbers.attribute_value_complex ∷ []

abbrev attr_with : Option (List ℕ) → ℕ → ℕ → Attr
attr_with set kind value = record { set = set; kind = kind; value = value }

abbrev as_attr : Option (List ℕ) × (ℕ × Asked ℕ) → Asked Attr
as_attr (set, (kind, value)) = asked_as (attr_with set kind) value

-- AttributeElement: attributeSet [1] OPTIONAL, attributeType [120], attributeValue
unfoldable pub attr_in : Forest → Result (Asked Attr) Refusal
attr_in fields =
    read_as as_attr (
    optional numbers.attribute_set oid_of fields
    ⊗ required numbers.attribute_type number_of fields
    ⊗ required_of numbers.attribute_value_numeric value_choice value_of fields)

-- each attribute is a SEQUENCE
abbrev pub attr_of : Field → Result (Asked Attr) Refusal
attr_of field =
    if has_tag field.tag (universal numbers.sequence) then within attr_in field
    else Err (BadValue field.tag.number)

-- AttributeList [44]: every element in it
unfoldable pub attrs_in : Forest → Result (Asked (List Attr)) Refusal
attrs_in elements = read_as all_asked (each (λ field. true) attr_of elements)

abbrev pub attrs_of : Field → Result (Asked (List Attr)) Refusal
attrs_of field = within attrs_in field

-- Term: general [45], numeric [215], characterString [216], or another one, which is not served
abbrev pub term_choice : List Tag
term_choice =
    context numbers.general_term
    ∷ context numbers.numeric_term
    ∷ context numbers.character_string_term
    ∷ context numbers.object_identifier_term
    ∷ context numbers.date_time_term
    ∷ context numbers.external_term
    ∷ context numbers.integer_and_unit_term
    ∷ context numbers.null_term ∷ []

abbrev pub term_of : Field → Result (Asked Term) Refusal
term_of field =
    if field.tag.number == numbers.general_term
    then read_as (λ octets. Good (General octets)) (octets_of field)
    else (if field.tag.number == numbers.numeric_term
    then read_as (λ number. Good (Number number)) (integer_of field)
    else (if field.tag.number == numbers.character_string_term
    then read_as (λ octets. Good (Words octets)) (octets_of field)
    else Ok (Bad (other_form field.tag.number))))

-- whether the attributes stand before the term
abbrev pub is_attributes_first : Option Field → Bool
is_attributes_first None = true
is_attributes_first (Some field) = field.tag.number == numbers.attribute_list

-- attributes and a term, of which the first from the left tells what is not served
abbrev pub operand_asked : Bool → Asked (List Attr) × Asked Term → Asked (List Attr × Term)
operand_asked attributes_first (attrs, term) =
    if attributes_first then both_asked attrs term
    else asked_as (λ q. (q.1, q.0)) (both_asked term attrs)

-- AttributesPlusTerm: AttributeList [44], Term
unfoldable pub attrs_and_term_in : Forest → Result (Asked (List Attr × Term)) Refusal
attrs_and_term_in fields =
    read_as (operand_asked
    (is_attributes_first (first_of (context numbers.attribute_list ∷ term_choice) fields)))
    (required numbers.attribute_list attrs_of fields
    ⊗ required_of numbers.general_term term_choice term_of fields)

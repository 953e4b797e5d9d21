-- Queries as they are read (ANSI/NISO Z39.50-2003, Query, RPNQuery, RPNStructure).
use Rattle.std.specs.Prelude.{ℕ, zero, suc, List, [], ◌∷◌, ◌==◌, ◌||◌, Option, Some, None, Result, Ok, Err, if◌then◌else◌}
use Rattle.z_types.specs.Tree.{Tree, leaf as leaf_node, operand, and, or, and_not}
use Rattle.z_types.specs.declared.query.RpnQuery.{RpnQuery}
use Rattle.z_types.specs.declared.requests.Asked.{Asked}
use Rattle.z_types.specs.declared.requests.Asked.TheVariants.{Good, Bad}
use Rattle.z_ber.specs.declared.tag.Tag.{Tag}
use Rattle.z_ber.specs.Element.{Forest, none, leaf, branch}
use Rattle.unit_forms.specs.declared.refusal.Refusal.{Refusal}
use Rattle.unit_forms.specs.declared.refusal.Refusal.TheVariants.{Missing, BadValue}
use Rattle.unit_forms.specs.declared.operator.Operator.{Operator}
use Rattle.unit_forms.specs.declared.operator.Operator.TheVariants.{And, Or, AndNot}
use Rattle.unit_forms.specs.Reading.Elements.{Field, first_element, first_context, has_tag}
use Rattle.unit_forms.specs.Reading.Answers.{◌⊗◌, read_as, read_or, both_asked, asked_as}
use Rattle.unit_forms.specs.Reading.Rows.{octets_of, oid_of, context, universal, required, required_of, within}
use Rattle.unit_forms.specs.Reading.Attributes.{attrs_and_term_in}
use Rattle.unit_forms.specs.Reading.Diagnostics.{other_query_type, other_form, proximity}
use Rattle.unit_forms.specs.Tags as numbers

-- Operand: AttributesPlusTerm [102], ResultSetId [31], or resultAttr [214], which is not served
abbrev pub operand_choice : List Tag
operand_choice =
    context numbers.attributes_plus_term ∷ context numbers.result_set_id
    ∷ context numbers.result_set_plus_attributes ∷ []

abbrev pub operand_of : Field → Result (Asked Tree) Refusal
operand_of field =
    if field.tag.number == numbers.attributes_plus_term
    then read_as (asked_as (λ p. leaf_node p.0 p.1)) (within attrs_and_term_in field)
    else (if field.tag.number == numbers.result_set_id
    then read_as (λ name. Good (operand name)) (octets_of field)
    else Ok (Bad (other_form field.tag.number)))

unfoldable pub operand_in : Forest → Result (Asked Tree) Refusal
operand_in elements = required_of numbers.attributes_plus_term operand_choice operand_of elements

-- Operator: and [0], or [1], and-not [2], or prox [3], which is not served; its contents are not
-- looked at
abbrev pub operator_choice : List Tag
operator_choice =
    context numbers.and_operator ∷ context numbers.or_operator ∷ context numbers.and_not_operator
    ∷ context numbers.proximity_operator ∷ []

abbrev pub operator_of : Field → Result (Asked Operator) Refusal
operator_of field =
    if field.tag.number == numbers.and_operator then Ok (Good And)
    else (if field.tag.number == numbers.or_operator then Ok (Good Or)
    else (if field.tag.number == numbers.and_not_operator then Ok (Good AndNot)
    else Ok (Bad proximity)))

-- the operator [46] of a structure
unfoldable pub operator_in : Forest → Result (Asked Operator) Refusal
operator_in elements =
    required numbers.operator
    (within (required_of numbers.and_operator operator_choice operator_of)) elements

abbrev pub joined : Tree × (Tree × Operator) → Tree
joined (l, (r, And)) = and l r
joined (l, (r, Or)) = or l r
joined (l, (r, AndNot)) = and_not l r

-- two structures and an operator, of which the first from the left tells what is not served
abbrev pub join_asked : Asked Tree × (Asked Tree × Asked Operator) → Asked Tree
join_asked (left, (right, operator)) = asked_as joined (both_asked left (both_asked right operator))

-- two structures and an operator, each read or refused
abbrev pub joined_of :
    Result (Asked Tree) Refusal → Result (Asked Tree) Refusal → Result (Asked Operator) Refusal
    → Result (Asked Tree) Refusal
joined_of left right operator = read_as join_asked (left ⊗ right ⊗ operator)

-- RPNStructure: [0] round an operand, or [1] round two structures and an operator; an element of
-- another tag or form has a bad value
abbrev pub structure_with : Tag → Result (Asked Tree) Refusal → Result (Asked Tree) Refusal
    → Result (Asked Tree) Refusal
structure_with tag alone both =
    if has_tag tag (context numbers.operand) || has_tag tag (context numbers.rpn_rpn_op)
    then (if tag.constructed then (if tag.number == numbers.operand then alone else both)
    else Err (BadValue tag.number))
    else Err (BadValue tag.number)

-- the structure that the element at a place is, which is missing where no element is there; an
-- element without elements in it has no structure in it
unfoldable pub structure_at : ℕ → Forest → Result (Asked Tree) Refusal
structure_at place none = Err (Missing numbers.operand)
structure_at (suc place) (leaf tag contents others) = structure_at place others
structure_at (suc place) (branch tag contents inner others) = structure_at place others
structure_at zero (leaf tag contents others) =
    structure_with tag (operand_in none)
    (joined_of (Err (Missing numbers.operand)) (Err (Missing numbers.operand)) (operator_in none))
structure_at zero (branch tag contents inner others) =
    structure_with tag (operand_in inner)
    (joined_of (structure_at 0 inner) (structure_at 1 inner) (operator_in inner))

-- the attribute set of a query, its first element, which has the tag of an OBJECT IDENTIFIER
abbrev pub set_of : Option Field → Result (List ℕ) Refusal
set_of None = Err (Missing numbers.object_identifier)
set_of (Some field) =
    if has_tag field.tag (universal numbers.object_identifier) then oid_of field
    else Err (BadValue field.tag.number)

abbrev query_with : List ℕ → Tree → RpnQuery
query_with set root = record { attr_set = set; root = root }

abbrev as_query : List ℕ × Asked Tree → Asked RpnQuery
as_query (set, root) = asked_as (query_with set) root

-- RPNQuery: the attribute set and the structure, by their places
unfoldable pub rpn_query_in : Forest → Result (Asked RpnQuery) Refusal
rpn_query_in elements = read_as as_query (set_of (first_element elements) ⊗ structure_at 1 elements)

-- Query: type-1 [1], type-101 [101], or another type, which is not served
abbrev pub query_of : Field → Result (Asked RpnQuery) Refusal
query_of field =
    if (field.tag.number == numbers.type_1_query) || (field.tag.number == numbers.type_101_query)
    then within rpn_query_in field
    else Ok (Bad (other_query_type field.tag.number))

-- the first element of the context class decides
unfoldable pub query_in : Forest → Result (Asked RpnQuery) Refusal
query_in elements = read_or (Missing numbers.type_1_query) query_of (first_context elements)

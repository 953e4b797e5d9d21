-- Queries as they are written (ANSI/NISO Z39.50-2003, Query and RPNQuery)
use Rattle.std.specs.Prelude.{ℕ, List, [], ◌++◌}
use Rattle.std.specs.List.{flat_map}
use Rattle.z_ber.specs.Written.{element}
use Rattle.z_types.specs.declared.query.Attr.{Attr}
use Rattle.z_types.specs.declared.query.Term.{Term}
use Rattle.z_types.specs.declared.query.Term.TheVariants.{General, Number, Words}
use Rattle.z_types.specs.declared.query.RpnQuery.{RpnQuery}
use Rattle.z_types.specs.declared.requests.Asked.{Asked}
use Rattle.z_types.specs.declared.requests.Asked.TheVariants.{Good, Bad}
use Rattle.z_types.specs.Tree.{Tree, leaf, operand, and, or, and_not}
use Rattle.unit_forms.specs.Fields.{sequence, object_identifier, octets_field, integer_field, number_field, identifier_field, tree_field, optional}
use Rattle.unit_forms.specs.Tags as tag

-- Term: general, numeric or characterString
abbrev pub term_octets : Term → List ℕ
term_octets (General octets) = octets_field tag.general_term octets
term_octets (Number value) = integer_field tag.numeric_term value
term_octets (Words octets) = octets_field tag.character_string_term octets

-- the fields of an AttributeElement: the set where it is there, the type and the numeric value
unfoldable pub attr_fields : Attr → List ℕ
attr_fields attr =
    optional (identifier_field tag.attribute_set) attr.set
    ++ number_field tag.attribute_type attr.kind
    ++ number_field tag.attribute_value_numeric attr.value

-- AttributeElement
abbrev pub attr_octets : Attr → List ℕ
attr_octets attr = element sequence (attr_fields attr)

-- AttributesPlusTerm: the attributes and the term
abbrev pub attributes_plus_term : List Attr → Term → List ℕ
attributes_plus_term attrs term =
    tree_field tag.attribute_list (flat_map attr_octets attrs) ++ term_octets term

-- AttributesPlusTerm, as an operand
unfoldable pub leaf_octets : List Attr → Term → List ℕ
leaf_octets attrs term =
    tree_field tag.operand (tree_field tag.attributes_plus_term (attributes_plus_term attrs term))

-- Operator: and, or, and-not
abbrev pub operator_octets : ℕ → List ℕ
operator_octets number = tree_field tag.operator (octets_field number [])

-- RPNStructure: an operand, or two structures and an operator
unfoldable pub tree_octets : Tree → List ℕ
tree_octets (leaf attrs term) = leaf_octets attrs term
tree_octets (operand name) = tree_field tag.operand (octets_field tag.result_set_id name)
tree_octets (and l r) =
    tree_field tag.rpn_rpn_op (tree_octets l ++ tree_octets r ++ operator_octets tag.and_operator)
tree_octets (or l r) =
    tree_field tag.rpn_rpn_op (tree_octets l ++ tree_octets r ++ operator_octets tag.or_operator)
tree_octets (and_not l r) =
    tree_field tag.rpn_rpn_op
    (tree_octets l ++ tree_octets r ++ operator_octets tag.and_not_operator)

-- RPNQuery: the attribute set and the structure
abbrev pub rpn_fields : RpnQuery → List ℕ
rpn_fields query = object_identifier query.attr_set ++ tree_octets query.root

-- a query of type 1
unfoldable pub query_octets : RpnQuery → List ℕ
query_octets query = tree_field tag.type_1_query (rpn_fields query)

-- what is asked, which alone has a written form
abbrev pub asked_octets : Asked RpnQuery → List ℕ
asked_octets (Good query) = query_octets query
asked_octets (Bad diag) = []

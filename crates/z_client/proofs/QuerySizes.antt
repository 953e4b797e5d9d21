-- How many octets a query takes when it is written: no more than it costs (ANSI/NISO Z39.50-2003, Query and RPNQuery)
use Rattle.std.proofs.Common.{arith, ℕ, ◌+◌, ◌*◌, ◌^◌, ◌<◌, ◌≤◌, List, ◌++◌, length}
use Rattle.std.specs.List.{AllByRecursion}
use Rattle.z_types.specs.QueryMeasures.{node_cost, attribute_cost, term_cost, leaf_cost, tree_cost}
use Rattle.z_types.specs.Bounds.{most_query_cost}
use Rattle.z_types.specs.Tree.{Tree, leaf, operand, and, or, and_not}
use Rattle.z_types.specs.declared.query.Attr.{Attr}
use Rattle.z_types.specs.declared.query.RpnQuery.{RpnQuery}
use Rattle.z_types.specs.declared.query.Term.{Term}
use Rattle.z_types.specs.declared.query.Term.TheVariants.{General, Number, Words}
use Rattle.z_ber.specs.Values.{IsOid}
use Rattle.unit_forms.specs.Fields.{sequence, identifier_field, tree_field}
use Rattle.unit_forms.specs.Query.{term_octets, attr_fields, attr_octets, attributes_plus_term, leaf_octets, operator_octets, tree_octets, query_octets}
use Rattle.unit_forms.specs.Tags as tag
use Rattle.z_laws.specs.Readable.{IsReadableAttr, IsReadableTerm, IsReadableTree, IsReadableQuery}
use Rattle.gw_outside.specs.Asks.{HasNoSet}
use Rattle.z_client.proofs.SizeLemmas.{IsWithin, wider, joined, nothing, each, within_low, octets_within, tree_within, number_within, integer_within, low_identifier_within, object_identifier_within, optional_within}

-- an attribute takes no more than it costs
attr_within : (attr : Attr) → IsReadableAttr attr → IsWithin attribute_cost (attr_octets attr)
unfolding attr_fields
attr_within attr readable =
    let set = optional_within IsOid (identifier_field tag.attribute_set) attr.set (λ arcs valid. low_identifier_within tag.attribute_set arcs (omega arith) valid) readable.set in
    let kind = number_within tag.attribute_type attr.kind (omega arith) readable.kind in
    let value = number_within tag.attribute_value_numeric attr.value (omega arith) readable.value in
    within_low sequence (omega arith) (omega arith) (joined (joined set kind) value)

term_within : (term : Term) → IsReadableTerm term → term_cost term < 2 ^ 31 → IsWithin (term_cost term + 11) (term_octets term)
term_within (General octets) readable small = octets_within tag.general_term (omega arith) (omega (arith, small)) (record { few = omega arith })
term_within (Number value) readable small = wider _ (omega arith) (integer_within tag.numeric_term value (omega arith) readable)
term_within (Words octets) readable small = octets_within tag.character_string_term (omega arith) (omega (arith, small)) (record { few = omega arith })

-- attributes and a term take fewer octets than an operand costs
pub plus_within : (attrs : List Attr) (term : Term) → AllByRecursion IsReadableAttr attrs → IsReadableTerm term → leaf_cost attrs term < 2 ^ 31
    → IsWithin (attribute_cost * length attrs + 11 + (term_cost term + 11)) (attributes_plus_term attrs term)
plus_within attrs term readable is small =
    joined
    (tree_within tag.attribute_list (omega arith) (omega (arith, small)) (each IsReadableAttr attr_octets attribute_cost attr_within attrs readable))
    (term_within term is (omega (arith, small)))

leaf_within : (attrs : List Attr) (term : Term) → AllByRecursion IsReadableAttr attrs → IsReadableTerm term → leaf_cost attrs term < 2 ^ 31
    → IsWithin (leaf_cost attrs term) (leaf_octets attrs term)
unfolding leaf_octets
leaf_within attrs term readable is small =
    wider _ (omega arith)
    (tree_within tag.operand (omega arith) (omega (arith, small))
    (tree_within tag.attributes_plus_term (omega arith) (omega (arith, small)) (plus_within attrs term readable is small)))

-- two structures and an operator
operator_within : {m n : ℕ} {left right : List ℕ} (number : ℕ) → number < 2 ^ 31 → m + n < 2 ^ 31 → IsWithin m left → IsWithin n right
    → IsWithin (m + n + node_cost) (tree_field tag.rpn_rpn_op (left ++ right ++ operator_octets number))
operator_within {m} {n} number few small l r =
    let own = tree_within tag.operator (omega arith) (omega arith) (octets_within number few (omega arith) nothing) in
    wider _ (omega arith) (tree_within tag.rpn_rpn_op (omega arith) (omega (arith, small)) (joined (joined l r) own))

-- a structure without result sets takes no more than it costs
pub tree_within_cost : (tree : Tree) → HasNoSet tree → IsReadableTree tree → tree_cost tree < 2 ^ 31 → IsWithin (tree_cost tree) (tree_octets tree)
unfolding tree_octets
tree_within_cost (leaf attrs term) no_set readable small = leaf_within attrs term readable.0 readable.1 small
tree_within_cost (operand name) no_set readable small = absurd no_set
tree_within_cost (and l r) no_set readable small =
    operator_within tag.and_operator (omega arith) (omega (arith, small))
    (tree_within_cost l no_set.0 readable.0 (omega (arith, small))) (tree_within_cost r no_set.1 readable.1 (omega (arith, small)))
tree_within_cost (or l r) no_set readable small =
    operator_within tag.or_operator (omega arith) (omega (arith, small))
    (tree_within_cost l no_set.0 readable.0 (omega (arith, small))) (tree_within_cost r no_set.1 readable.1 (omega (arith, small)))
tree_within_cost (and_not l r) no_set readable small =
    operator_within tag.and_not_operator (omega arith) (omega (arith, small))
    (tree_within_cost l no_set.0 readable.0 (omega (arith, small))) (tree_within_cost r no_set.1 readable.1 (omega (arith, small)))

-- a query takes its structure's octets, an identifier's and two headers'
pub query_within : (query : RpnQuery) → HasNoSet query.root → IsReadableQuery query → tree_cost query.root ≤ most_query_cost → IsWithin 900173 (query_octets query)
unfolding query_octets
query_within query no_set readable cheap =
    let root = wider most_query_cost cheap (tree_within_cost query.root no_set readable.1 (omega (arith, cheap))) in
    tree_within tag.type_1_query (omega arith) (omega arith) (joined (object_identifier_within query.attr_set readable.0) root)

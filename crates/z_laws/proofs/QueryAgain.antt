-- A query that is written is read again.
use Rattle.std.proofs.Common.{◌≡◌, ◌∙◌, ℕ, List, [], ◌∷◌, ◌++◌, None, Ok, lit<, subst, ◌<◌, arith, refl}
use Rattle.z_types.specs.Tree.{Tree, leaf as leaf_node, operand, and, or, and_not}
use Rattle.z_types.specs.declared.query.RpnQuery.{RpnQuery}
use Rattle.z_types.specs.declared.requests.Asked.{Asked}
use Rattle.z_types.specs.declared.requests.Asked.TheVariants.{Good, Bad}
use Rattle.z_ber.specs.Element.{Forest, none, leaf, branch}
use Rattle.z_ber.specs.Written.{oid_octets}
use Rattle.unit_forms.specs.declared.operator.Operator.TheVariants.{And, Or, AndNot}
use Rattle.unit_forms.specs.Fields.{primitive, constructed, object_identifier_tag, octets_field, tree_field}
use Rattle.unit_forms.specs.Query.{attributes_plus_term, leaf_octets, operator_octets, tree_octets, rpn_fields, query_octets, asked_octets}
use Rattle.unit_forms.specs.Reading.Elements.{first_of}
use Rattle.unit_forms.specs.Reading.Rows.{context}
use Rattle.unit_forms.specs.Reading.Queries.{operand_in, operator_in, structure_at, rpn_query_in, query_in}
use Rattle.z_laws.specs.Readable.{IsAsked, IsReadableTree, IsReadableQuery}
use Rattle.z_laws.proofs.Beginning.{Spells, spells-nothing, spells-leaf}
use Rattle.z_laws.proofs.Forests.{joined, joined-joined}
use Rattle.z_laws.proofs.Lookup.{first_of-joined}
use Rattle.z_laws.proofs.Parts.{◌⊕◌, spells-primitive, spells-constructed, oid_once}
use Rattle.z_laws.proofs.AttributesAgain.{plus_forest, spells-plus, attrs_and_term_in-again}

-- the element of an Operator
abbrev operator_forest : ℕ → Forest
operator_forest number = branch (constructed 46) (octets_field number []) (leaf (primitive number) [] none) none

-- two structures and an operator
abbrev both_forest : Forest → Forest → ℕ → Forest
both_forest l r number = joined l (joined r (operator_forest number))

-- the element of an RPNStructure
abbrev pub structure_forest : Tree → Forest
structure_forest (leaf_node attrs term) =
    branch (constructed 0) (tree_field 102 (attributes_plus_term attrs term))
    (branch (constructed 102) (attributes_plus_term attrs term) (plus_forest attrs term) none) none
structure_forest (operand name) =
    branch (constructed 0) (octets_field 31 name) (leaf (primitive 31) name none) none
structure_forest (and l r) =
    branch (constructed 1) (tree_octets l ++ tree_octets r ++ operator_octets 0) (both_forest (structure_forest l) (structure_forest r) 0) none
structure_forest (or l r) =
    branch (constructed 1) (tree_octets l ++ tree_octets r ++ operator_octets 1) (both_forest (structure_forest l) (structure_forest r) 1) none
structure_forest (and_not l r) =
    branch (constructed 1) (tree_octets l ++ tree_octets r ++ operator_octets 2) (both_forest (structure_forest l) (structure_forest r) 2) none

spells-operator : (number : ℕ) → number < 3 → Spells (operator_octets number) (operator_forest number)
spells-operator number lt =
    spells-constructed 46 _ (leaf (primitive number) [] none) (lit< tt) (spells-primitive number [] (omega arith))

spells-joined : (a b : List ℕ) (f g : Forest) (number : ℕ) → number < 3 → Spells a f → Spells b g → Spells (a ++ b ++ operator_octets number) (both_forest f g number)
spells-joined a b f g number lt p q =
    subst (λ (k : Forest). Spells (a ++ b ++ operator_octets number) k) (joined-joined f g (operator_forest number)) (p ⊕ q ⊕ spells-operator number lt)

pub spells-structure : (tree : Tree) → Spells (tree_octets tree) (structure_forest tree)
unfolding tree_octets leaf_octets
spells-structure (leaf_node attrs term) =
    spells-constructed 0 _ _ (lit< tt) (spells-constructed 102 _ (plus_forest attrs term) (lit< tt) (spells-plus attrs term))
spells-structure (operand name) = spells-constructed 0 _ _ (lit< tt) (spells-primitive 31 name (lit< tt))
spells-structure (and l r) =
    spells-constructed 1 _ _ (lit< tt) (spells-joined _ _ _ _ 0 (lit< tt) (spells-structure l) (spells-structure r))
spells-structure (or l r) =
    spells-constructed 1 _ _ (lit< tt) (spells-joined _ _ _ _ 1 (lit< tt) (spells-structure l) (spells-structure r))
spells-structure (and_not l r) =
    spells-constructed 1 _ _ (lit< tt) (spells-joined _ _ _ _ 2 (lit< tt) (spells-structure l) (spells-structure r))

-- ---- read again

-- a structure is one element, that decides alone
structure-here : (tree : Tree) (rest : Forest) → structure_at 0 (joined (structure_forest tree) rest) ≡ structure_at 0 (structure_forest tree)
unfolding structure_at
structure-here (leaf_node attrs term) rest = refl
structure-here (operand name) rest = refl
structure-here (and l r) rest = refl
structure-here (or l r) rest = refl
structure-here (and_not l r) rest = refl

structure-next : (tree : Tree) (rest : Forest) → structure_at 1 (joined (structure_forest tree) rest) ≡ structure_at 0 rest
unfolding structure_at
structure-next (leaf_node attrs term) rest = refl
structure-next (operand name) rest = refl
structure-next (and l r) rest = refl
structure-next (or l r) rest = refl
structure-next (and_not l r) rest = refl

-- and no operator
no_operator : (tree : Tree) → first_of (context 46 ∷ []) (structure_forest tree) ≡ None
no_operator (leaf_node attrs term) = refl
no_operator (operand name) = refl
no_operator (and l r) = refl
no_operator (or l r) = refl
no_operator (and_not l r) = refl

operator-and : (l r : Tree) → operator_in (both_forest (structure_forest l) (structure_forest r) 0) ≡ Ok (Good And)
unfolding operator_in
operator-and l r = simp (first_of-joined, no_operator)

operator-or : (l r : Tree) → operator_in (both_forest (structure_forest l) (structure_forest r) 1) ≡ Ok (Good Or)
unfolding operator_in
operator-or l r = simp (first_of-joined, no_operator)

operator-and_not : (l r : Tree) → operator_in (both_forest (structure_forest l) (structure_forest r) 2) ≡ Ok (Good AndNot)
unfolding operator_in
operator-and_not l r = simp (first_of-joined, no_operator)

left_of : (l r : Tree) (number : ℕ) → structure_at 0 (both_forest (structure_forest l) (structure_forest r) number) ≡ structure_at 0 (structure_forest l)
left_of l r number = structure-here l (joined (structure_forest r) (operator_forest number))

right_of : (l r : Tree) (number : ℕ) → structure_at 1 (both_forest (structure_forest l) (structure_forest r) number) ≡ structure_at 0 (structure_forest r)
right_of l r number = structure-next l (joined (structure_forest r) (operator_forest number)) ∙ structure-here r (operator_forest number)

pub structure-again : (tree : Tree) → IsReadableTree tree → structure_at 0 (structure_forest tree) ≡ Ok (Good tree)
unfolding structure_at operand_in
structure-again (leaf_node attrs term) h = rw (attrs_and_term_in-again attrs term h.0 h.1) refl
structure-again (operand name) h = refl
structure-again (and l r) h =
    let left = left_of l r 0 ∙ structure-again l h.0 in
    let right = right_of l r 0 ∙ structure-again r h.1 in
    rw (left, right, operator-and l r) refl
structure-again (or l r) h =
    let left = left_of l r 1 ∙ structure-again l h.0 in
    let right = right_of l r 1 ∙ structure-again r h.1 in
    rw (left, right, operator-or l r) refl
structure-again (and_not l r) h =
    let left = left_of l r 2 ∙ structure-again l h.0 in
    let right = right_of l r 2 ∙ structure-again r h.1 in
    rw (left, right, operator-and_not l r) refl

-- ---- the query

-- the elements of an RPNQuery
abbrev rpn_forest : RpnQuery → Forest
rpn_forest query = joined (leaf object_identifier_tag (oid_octets query.attr_set) none) (structure_forest query.root)

-- the element of a query
abbrev query_forest : RpnQuery → Forest
query_forest query = branch (constructed 1) (rpn_fields query) (rpn_forest query) none

-- what is asked
abbrev pub asked_forest : Asked RpnQuery → Forest
asked_forest (Good query) = query_forest query
asked_forest (Bad diag) = none

pub spells-asked : (asked : Asked RpnQuery) → Spells (asked_octets asked) (asked_forest asked)
unfolding query_octets
spells-asked (Good query) =
    spells-constructed 1 _ (rpn_forest query) (lit< tt) (spells-leaf object_identifier_tag _ (lit< tt, lit< tt) refl ⊕ spells-structure query.root)
spells-asked (Bad diag) = spells-nothing

-- behind a primitive element
structure-second : (tree : Tree) (contents : List ℕ) → structure_at 1 (leaf object_identifier_tag contents (structure_forest tree)) ≡ structure_at 0 (structure_forest tree)
unfolding structure_at
structure-second tree contents = refl

rpn_query-again : (query : RpnQuery) → IsReadableQuery query → rpn_query_in (rpn_forest query) ≡ Ok (Good query)
unfolding rpn_query_in
rpn_query-again query h =
    let second : structure_at 1 (rpn_forest query) ≡ Ok (Good query.root) = structure-second query.root _ ∙ structure-again query.root h.1 in
    rw (oid_once object_identifier_tag query.attr_set refl h.0, second) refl

pub query_in-again : (asked : Asked RpnQuery) → IsAsked IsReadableQuery asked → query_in (asked_forest asked) ≡ Ok asked
unfolding query_in
query_in-again (Good query) h = rpn_query-again query h
query_in-again (Bad diag) h = absurd h

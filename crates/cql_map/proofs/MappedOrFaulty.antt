-- A query without a fault has a mapping.
use Rattle.std.proofs.Common.{◌≡◌, ℕ, false, List, [], ◌∷◌, ◌++◌, Option, Some, None, refl}
use Rattle.z_types.specs.Tree as rpn
use Rattle.route_config.specs.declared.route.Index.{Index}
use Rattle.cql_parse.specs.declared.tree.Head.{Head}
use Rattle.cql_parse.specs.Tree.{Tree, clause, joined, assigned, sorted}
use Rattle.cql_map.specs.declared.fault.MapFault.{MapFault}
use Rattle.cql_map.specs.declared.relation.Row.{Row}
use Rattle.cql_map.specs.declared.relation.Row.TheVariants.{Compared, Whole, Adjacent, Words}
use Rattle.cql_map.specs.declared.relation.Joint.{Joint}
use Rattle.cql_map.specs.declared.operator.Operator.{Operator}
use Rattle.cql_map.specs.declared.term.Character.{Character}
use Rattle.cql_map.specs.Terms.{characters, words}
use Rattle.cql_map.specs.Indexes.{use_of}
use Rattle.cql_map.specs.Relations.{row_of}
use Rattle.cql_map.specs.Bib1.{anywhere, equal}
use Rattle.cql_map.specs.Leaves.{leaf_of}
use Rattle.cql_map.specs.Operators.{operator_of, under}
use Rattle.cql_map.specs.Faults.{index_faults, index_faults_by, relation_faults, relation_faults_by, relation_modifier_faults, head_faults, words_faults, row_faults, term_faults, boolean_faults, boolean_faults_by, boolean_modifier_faults, faults, has_sort, sort_faults}
use Rattle.cql_map.specs.Mapped.{words_joined, words_mapped, row_mapped, searched_mapped, both_mapped, mapped}
use Rattle.cql_map.specs.Laws.{IsMappedUnlessFaulty}

-- of faults that are none, the first are none, and so are the others
no_first : (xs ys : List MapFault) → xs ++ ys ≡ [] → xs ≡ []
no_first [] ys h = refl
no_first (x ∷ xs) ys h = absurd cc

no_others : (xs ys : List MapFault) → xs ++ ys ≡ [] → ys ≡ []
no_others [] ys h = h
no_others (x ∷ xs) ys h = absurd cc

-- there is a mapping
abbrev IsThere : Option rpn.Tree → Type 0
IsThere found = (root : rpn.Tree) × (found ≡ Some root)

of_words : (joint : Joint) (value : ℕ) (ws : List (List Character)) → words_faults ws ≡ []
    → IsThere (words_mapped joint value ws)
of_words joint value [] h = absurd cc
of_words joint value (w ∷ ws) h = (words_joined joint value (leaf_of value (Words joint) w) ws, refl)

of_row : (value : ℕ) (row : Row) (cs : List Character) → row_faults row cs ≡ [] → IsThere (row_mapped value row cs)
of_row value (Words joint) cs h = of_words joint value (words cs) h
of_row value (Compared relation) cs h = (leaf_of value (Compared relation) cs, refl)
of_row value Whole cs h = (leaf_of value Whole cs, refl)
of_row value Adjacent cs h = (leaf_of value Adjacent cs, refl)

of_head : (indexes : List Index) (head : Head) (cs : List Character) (value : Option ℕ) (row : Option Row)
    → index_faults_by indexes head.index value ≡ [] → relation_faults_by head.relation row ≡ []
    → term_faults row cs ≡ [] → IsThere (searched_mapped value row cs)
of_head indexes head cs None row x y z = absurd cc
of_head indexes head cs (Some value) None x y z = absurd cc
of_head indexes head cs (Some value) (Some row) x y z = of_row value row cs z

of_clause : (indexes : List Index) (head : Head) (cs : List Character)
    → head_faults indexes head ++ term_faults (row_of head.relation) cs ≡ []
    → IsThere (searched_mapped (use_of indexes head.index) (row_of head.relation) cs)
of_clause indexes head cs h =
    let heads = no_first (head_faults indexes head) (term_faults (row_of head.relation) cs) h in
    let others = no_others (index_faults indexes head.index)
    (relation_faults head.relation ++ relation_modifier_faults head.modifiers) heads in
    of_head indexes head cs (use_of indexes head.index) (row_of head.relation)
    (no_first (index_faults indexes head.index)
    (relation_faults head.relation ++ relation_modifier_faults head.modifiers) heads)
    (no_first (relation_faults head.relation) (relation_modifier_faults head.modifiers) others)
    (no_others (head_faults indexes head) (term_faults (row_of head.relation) cs) h)

of_both : (boolean : List ℕ) (operator : Option Operator) (a b : Option rpn.Tree) → boolean_faults_by boolean operator ≡ []
    → IsThere a → IsThere b → IsThere (both_mapped operator a b)
of_both boolean None a b h x y = absurd cc
of_both boolean (Some operator) None b h x y = let e = x.1 in absurd cc
of_both boolean (Some operator) (Some a) None h x y = let e = y.1 in absurd cc
of_both boolean (Some operator) (Some a) (Some b) h x y = (under operator a b, refl)

of_tree : (indexes : List Index) (q : Tree) → faults indexes q ≡ [] → IsThere (mapped indexes q)
of_tree indexes (clause None term) h = of_row anywhere (Compared equal) (characters false term) h
of_tree indexes (clause (Some head) term) h = of_clause indexes head (characters false term) h
of_tree indexes (joined boolean modifiers a b) h =
    let others = no_others (faults indexes a)
    (boolean_faults boolean ++ (boolean_modifier_faults modifiers ++ faults indexes b)) h in
    let last = no_others (boolean_faults boolean) (boolean_modifier_faults modifiers ++ faults indexes b) others in
    of_both boolean (operator_of boolean) (mapped indexes a) (mapped indexes b)
    (no_first (boolean_faults boolean) (boolean_modifier_faults modifiers ++ faults indexes b) others)
    (of_tree indexes a (no_first (faults indexes a)
    (boolean_faults boolean ++ (boolean_modifier_faults modifiers ++ faults indexes b)) h))
    (of_tree indexes b (no_others (boolean_modifier_faults modifiers) (faults indexes b) last))
of_tree indexes (assigned name uri q) h = absurd cc
of_tree indexes (sorted q keys) h = of_tree indexes q h

-- a query without a fault is mapped
pub mapped-or-faulty : (indexes : List Index) (q : Tree) → IsMappedUnlessFaulty indexes q
mapped-or-faulty indexes q h =
    of_tree indexes q (no_first (faults indexes q) (sort_faults (has_sort q)) h)

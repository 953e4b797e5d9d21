-- The mapping of a query with a term of many words is as deep as these are many.
use Rattle.std.proofs.Common.{◌≡◌, ◌≤◌, ◌<◌, ◌+◌, ◌||◌, ℕ, Bool, true, false, List, [], ◌∷◌, length, Option, Some, None, refl, subst, arith}
use Rattle.std.proofs.lemmas.Bool.{ltb-true}
use Rattle.z_types.specs.Bounds.{most_query_depth}
use Rattle.z_types.specs.QueryMeasures.{tree_depth}
use Rattle.z_types.specs.Tree as rpn
use Rattle.route_config.specs.declared.route.Index.{Index}
use Rattle.cql_parse.specs.Tree.{Tree, clause, joined, assigned, sorted}
use Rattle.cql_map.specs.declared.relation.Row.{Row}
use Rattle.cql_map.specs.declared.relation.Row.TheVariants.{Compared, Whole, Adjacent, Words}
use Rattle.cql_map.specs.declared.relation.Joint.{Joint}
use Rattle.cql_map.specs.declared.relation.Joint.TheVariants.{All, Any}
use Rattle.cql_map.specs.declared.operator.Operator.{Operator}
use Rattle.cql_map.specs.declared.operator.Operator.TheVariants.{And, Or, AndNot}
use Rattle.cql_map.specs.declared.term.Character.{Character}
use Rattle.cql_map.specs.Terms.{characters, words}
use Rattle.cql_map.specs.Indexes.{use_of}
use Rattle.cql_map.specs.Relations.{row_of}
use Rattle.cql_map.specs.Leaves.{leaf_of}
use Rattle.cql_map.specs.Operators.{operator_of, under}
use Rattle.cql_map.specs.Mapped.{beside, words_joined, words_mapped, searched_mapped, both_mapped, mapped}
use Rattle.cql_map.specs.Long.{is_long, has_long_term, IsTooDeepIfLong}

some_same : (a b : rpn.Tree) → Some a ≡ Some b → a ≡ b
some_same a b h = cc

-- ---- words

beside_deeper : (joint : Joint) (a b : rpn.Tree) → tree_depth a + 1 ≤ tree_depth (beside joint a b)
beside_deeper All a b = omega arith
beside_deeper Any a b = omega arith

joined_deep : (joint : Joint) (value : ℕ) (left : rpn.Tree) (ws : List (List Character))
    → tree_depth left + length ws ≤ tree_depth (words_joined joint value left ws)
joined_deep joint value left [] = omega arith
joined_deep joint value left (w ∷ ws) =
    omega (
      arith,
      beside_deeper joint left (leaf_of value (Words joint) w),
      joined_deep joint value (beside joint left (leaf_of value (Words joint) w)) ws,
    )

-- a query is deeper than so many levels, where there is one
abbrev IsDeeper : Option rpn.Tree → Type 0
IsDeeper found = (root : rpn.Tree) → found ≡ Some root → most_query_depth < tree_depth root

words_deep : (joint : Joint) (value : ℕ) (ws : List (List Character)) → most_query_depth < length ws
    → IsDeeper (words_mapped joint value ws)
words_deep joint value [] many root is = absurd cc
words_deep joint value (w ∷ ws) many root is =
    subst (λ (t : rpn.Tree). most_query_depth < tree_depth t)
    (some_same (words_joined joint value (leaf_of value (Words joint) w) ws) root is)
    (omega (arith, many, joined_deep joint value (leaf_of value (Words joint) w) ws))

searched_deep : (value : Option ℕ) (row : Option Row) (cs : List Character) → is_long row cs ≡ true
    → IsDeeper (searched_mapped value row cs)
searched_deep None row cs long root is = absurd cc
searched_deep (Some value) None cs long root is = absurd cc
searched_deep (Some value) (Some (Compared relation)) cs long root is = absurd cc
searched_deep (Some value) (Some Whole) cs long root is = absurd cc
searched_deep (Some value) (Some Adjacent) cs long root is = absurd cc
searched_deep (Some value) (Some (Words joint)) cs long root is =
    words_deep joint value (words cs) (ltb-true most_query_depth (length (words cs)) long) root is

-- ---- booleans

under_deeper : (operator : Operator) (a b : rpn.Tree)
    → (tree_depth a + 1 ≤ tree_depth (under operator a b)) × (tree_depth b + 1 ≤ tree_depth (under operator a b))
under_deeper And a b = (omega arith, omega arith)
under_deeper Or a b = (omega arith, omega arith)
under_deeper AndNot a b = (omega arith, omega arith)

both_deep : (operator : Option Operator) (a b : Option rpn.Tree) (long_a long_b : Bool) → (long_a || long_b) ≡ true
    → (long_a ≡ true → IsDeeper a) → (long_b ≡ true → IsDeeper b) → IsDeeper (both_mapped operator a b)
both_deep None a b x y long h k root is = absurd cc
both_deep (Some operator) None b x y long h k root is = absurd cc
both_deep (Some operator) (Some a) None x y long h k root is = absurd cc
both_deep (Some operator) (Some a) (Some b) true y long h k root is =
    subst (λ (t : rpn.Tree). most_query_depth < tree_depth t) (some_same (under operator a b) root is)
    (omega (arith, h refl a refl, (under_deeper operator a b).0))
both_deep (Some operator) (Some a) (Some b) false true long h k root is =
    subst (λ (t : rpn.Tree). most_query_depth < tree_depth t) (some_same (under operator a b) root is)
    (omega (arith, k refl b refl, (under_deeper operator a b).1))
both_deep (Some operator) (Some a) (Some b) false false long h k root is = absurd cc

-- ---- the whole

deep : (indexes : List Index) (q : Tree) → has_long_term q ≡ true → IsDeeper (mapped indexes q)
deep indexes (clause None term) long root is = absurd cc
deep indexes (clause (Some head) term) long root is =
    searched_deep (use_of indexes head.index) (row_of head.relation) (characters false term) long root is
deep indexes (joined boolean modifiers a b) long root is =
    both_deep (operator_of boolean) (mapped indexes a) (mapped indexes b) (has_long_term a) (has_long_term b) long
    (deep indexes a) (deep indexes b) root is
deep indexes (assigned name uri q) long root is = absurd cc
deep indexes (sorted q keys) long root is = deep indexes q long root is

pub long-is-too-deep : (indexes : List Index) (q : Tree) → IsTooDeepIfLong indexes q
long-is-too-deep indexes q root long is = deep indexes q long root is

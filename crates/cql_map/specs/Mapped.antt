-- The query of type 1 that a query of CQL is mapped to; none where a part of it has no mapping
-- (this project's own).
use Rattle.std.specs.Prelude.{ℕ, false, List, [], ◌∷◌, Option, Some, None}
use Rattle.z_types.specs.Tree as rpn
use Rattle.route_config.specs.declared.route.Index.{Index}
use Rattle.cql_parse.specs.declared.tree.Head.{Head}
use Rattle.cql_parse.specs.Tree.{Tree, clause, joined, assigned, sorted}
use Rattle.cql_map.specs.declared.relation.Row.{Row}
use Rattle.cql_map.specs.declared.relation.Row.TheVariants.{Compared, Words}
use Rattle.cql_map.specs.declared.relation.Joint.{Joint}
use Rattle.cql_map.specs.declared.relation.Joint.TheVariants.{All, Any}
use Rattle.cql_map.specs.declared.operator.Operator.{Operator}
use Rattle.cql_map.specs.declared.term.Character.{Character}
use Rattle.cql_map.specs.Terms.{characters, words}
use Rattle.cql_map.specs.Indexes.{use_of}
use Rattle.cql_map.specs.Relations.{row_of}
use Rattle.cql_map.specs.Bib1.{anywhere, equal}
use Rattle.cql_map.specs.Leaves.{leaf_of}
use Rattle.cql_map.specs.Operators.{operator_of, under}

-- words joined to the left
abbrev pub beside : Joint → rpn.Tree → rpn.Tree → rpn.Tree
beside All a b = rpn.and a b
beside Any a b = rpn.or a b

abbrev pub words_joined : Joint → ℕ → rpn.Tree → List (List Character) → rpn.Tree
words_joined joint value left [] = left
words_joined joint value left (w ∷ ws) =
    words_joined joint value (beside joint left (leaf_of value (Words joint) w)) ws

abbrev pub words_mapped : Joint → ℕ → List (List Character) → Option rpn.Tree
words_mapped joint value [] = None
words_mapped joint value (w ∷ ws) =
    Some (words_joined joint value (leaf_of value (Words joint) w) ws)

abbrev pub row_mapped : ℕ → Row → List Character → Option rpn.Tree
row_mapped value (Words joint) cs = words_mapped joint value (words cs)
row_mapped value row cs = Some (leaf_of value row cs)

-- a clause
abbrev pub searched_mapped : Option ℕ → Option Row → List Character → Option rpn.Tree
searched_mapped None row cs = None
searched_mapped (Some value) None cs = None
searched_mapped (Some value) (Some row) cs = row_mapped value row cs

abbrev pub clause_mapped : List Index → Option Head → List ℕ → Option rpn.Tree
clause_mapped indexes None term = row_mapped anywhere (Compared equal) (characters false term)
clause_mapped indexes (Some head) term =
    searched_mapped (use_of indexes head.index) (row_of head.relation) (characters false term)

-- a boolean
abbrev pub both_mapped : Option Operator → Option rpn.Tree → Option rpn.Tree → Option rpn.Tree
both_mapped None a b = None
both_mapped (Some o) None b = None
both_mapped (Some o) (Some a) None = None
both_mapped (Some o) (Some a) (Some b) = Some (under o a b)

-- the whole
abbrev pub mapped : List Index → Tree → Option rpn.Tree
mapped indexes (clause head term) = clause_mapped indexes head term
mapped indexes (joined boolean modifiers a b) =
    both_mapped (operator_of boolean) (mapped indexes a) (mapped indexes b)
mapped indexes (assigned name uri q) = None
mapped indexes (sorted q keys) = mapped indexes q

-- Whether a query finds a record, apart from how it is mapped (CQL 1.2; ANSI/NISO Z39.50-2003,
-- RPNQuery). A search says of each operand whether it finds that record; sets are joined record by
-- record, so one record says it of all.
use Rattle.std.specs.Prelude.{◌≡◌, ℕ, ◌&&◌, ◌||◌, Bool, true, false, not, List, [], ◌∷◌, Option, Some, None}
use Rattle.z_types.specs.declared.query.Attr.{Attr}
use Rattle.z_types.specs.declared.query.Term.{Term}
use Rattle.z_types.specs.Tree as rpn
use Rattle.route_config.specs.declared.route.Index.{Index}
use Rattle.cql_parse.specs.declared.tree.Head.{Head}
use Rattle.cql_parse.specs.Tree.{Tree, clause, joined, assigned, sorted}
use Rattle.cql_map.specs.declared.relation.Row.{Row}
use Rattle.cql_map.specs.declared.relation.Row.TheVariants.{Compared, Words}
use Rattle.cql_map.specs.declared.relation.Joint.{Joint}
use Rattle.cql_map.specs.declared.relation.Joint.TheVariants.{All, Any}
use Rattle.cql_map.specs.declared.operator.Operator.{Operator}
use Rattle.cql_map.specs.declared.operator.Operator.TheVariants.{And, Or, AndNot}
use Rattle.cql_map.specs.declared.term.Character.{Character}
use Rattle.cql_map.specs.Terms.{characters, words}
use Rattle.cql_map.specs.Indexes.{use_of}
use Rattle.cql_map.specs.Relations.{row_of}
use Rattle.cql_map.specs.Bib1.{anywhere, equal}
use Rattle.cql_map.specs.Leaves.{attributes, term_of}
use Rattle.cql_map.specs.Operators.{operator_of}

abbrev pub Search : Type 0
Search = List Attr → Term → Bool

-- a query of type 1; a result set as an operand, which no query of CQL has, finds nothing
abbrev pub rpn_finds : Search → rpn.Tree → Bool
rpn_finds search (rpn.leaf attributes term) = search attributes term
rpn_finds search (rpn.operand name) = false
rpn_finds search (rpn.and a b) = rpn_finds search a && rpn_finds search b
rpn_finds search (rpn.or a b) = rpn_finds search a || rpn_finds search b
rpn_finds search (rpn.and_not a b) = rpn_finds search a && not (rpn_finds search b)

-- one term or word; all words, or any of them
abbrev pub term_finds : Search → ℕ → Row → List Character → Bool
term_finds search value row cs = search (attributes value row cs) (term_of cs)

abbrev pub words_find : Joint → Search → ℕ → List (List Character) → Bool
words_find All search value [] = true
words_find All search value (w ∷ ws) =
    term_finds search value (Words All) w && words_find All search value ws
words_find Any search value [] = false
words_find Any search value (w ∷ ws) =
    term_finds search value (Words Any) w || words_find Any search value ws

abbrev pub row_finds : Search → ℕ → Row → List Character → Bool
row_finds search value (Words joint) cs = words_find joint search value (words cs)
row_finds search value row cs = term_finds search value row cs

-- a clause by the row of its relation, in its index; without them it has no meaning, and finds
-- nothing
abbrev pub searched : Search → Option ℕ → Option Row → List Character → Bool
searched search None row cs = false
searched search (Some value) None cs = false
searched search (Some value) (Some row) cs = row_finds search value row cs

abbrev pub clause_finds : Search → List Index → Option Head → List ℕ → Bool
clause_finds search indexes None term =
    row_finds search anywhere (Compared equal) (characters false term)
clause_finds search indexes (Some head) term =
    searched search (use_of indexes head.index) (row_of head.relation) (characters false term)

-- a boolean; any but and, or and not has no meaning here, and finds nothing
abbrev pub both_find : Option Operator → Bool → Bool → Bool
both_find None a b = false
both_find (Some And) a b = a && b
both_find (Some Or) a b = a || b
both_find (Some AndNot) a b = a && not b

-- a prefix assignment and a sort, which are refused, stand for their query
abbrev pub finds : Search → List Index → Tree → Bool
finds search indexes (clause head term) = clause_finds search indexes head term
finds search indexes (joined boolean modifiers a b) =
    both_find (operator_of boolean) (finds search indexes a) (finds search indexes b)
finds search indexes (assigned name uri q) = finds search indexes q
finds search indexes (sorted q keys) = finds search indexes q

-- both queries find the same, whatever their operands find
abbrev pub HasMeaningOf : List Index → Tree → rpn.Tree → Type 0
HasMeaningOf indexes query mapped =
    (search : Search) → rpn_finds search mapped ≡ finds search indexes query

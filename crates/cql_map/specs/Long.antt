-- Terms of which each word is searched, and which have too many (the limit of 48 levels is
-- this project's own)
use Rattle.std.specs.Prelude.{◌≡◌, ◌<◌, ◌||◌, Bool, true, false, List, length, nat_lt, Option, None, Some}
use Rattle.z_types.specs.Bounds.{most_query_depth}
use Rattle.z_types.specs.QueryMeasures.{tree_depth}
use Rattle.z_types.specs.Tree as rpn
use Rattle.route_config.specs.declared.route.Index.{Index}
use Rattle.cql_parse.specs.Tree.{Tree, clause, joined, assigned, sorted}
use Rattle.cql_map.specs.declared.relation.Row.{Row}
use Rattle.cql_map.specs.declared.relation.Row.TheVariants.{Words}
use Rattle.cql_map.specs.declared.term.Character.{Character}
use Rattle.cql_map.specs.Mapped.{mapped}
use Rattle.cql_map.specs.Relations.{row_of}
use Rattle.cql_map.specs.Terms.{characters, words}

-- each word of a term is searched, and they are more than a query may have levels
abbrev pub is_long : Option Row → List Character → Bool
is_long None cs = false
is_long (Some (Words joint)) cs = nat_lt most_query_depth (length (words cs))
is_long (Some other) cs = false

-- a term of the query is so
abbrev pub has_long_term : Tree → Bool
has_long_term (clause None term) = false
has_long_term (clause (Some head) term) = is_long (row_of head.relation) (characters false term)
has_long_term (joined boolean modifiers a b) = has_long_term a || has_long_term b
has_long_term (assigned name uri q) = has_long_term q
has_long_term (sorted q keys) = has_long_term q

-- the mapping of a query with such a term has too many levels
abbrev pub IsTooDeepIfLong : List Index → Tree → Type 0
IsTooDeepIfLong indexes q =
    (root : rpn.Tree) → has_long_term q ≡ true → mapped indexes q ≡ Some root
    → most_query_depth < tree_depth root

-- Which queries targets may be asked for, and which expansions are such (this
-- project's own)
use Rattle.std.specs.Prelude.{◌≡◌, ◌≤◌, false, List, All, Result, IfOk}
use Rattle.z_types.specs.Bounds.{most_query_depth, most_query_nodes, most_query_cost}
use Rattle.z_types.specs.Numbers.{HasNumbersOnly, QueryHasNumbers}
use Rattle.z_types.specs.QueryMeasures.{tree_depth, tree_cost}
use Rattle.z_types.specs.Tree.{Tree, tree_size}
use Rattle.z_types.specs.declared.known_set.KnownSet.{KnownSet}
use Rattle.z_types.specs.declared.query.RpnQuery.{RpnQuery}
use Rattle.z_sets.specs.Measured.{names_a_set}
use Rattle.z_sets.specs.declared.fault.ExpandFault.{ExpandFault}

-- no operand of a structure is a result set, and its numbers are within their range
pub record IsPlainTree (root : Tree) : Type 0 where
  pub no_set : names_a_set root ≡ false
  pub numbers : HasNumbersOnly root

-- targets may be asked for a query: it is plain, and within the bounds of queries
pub record IsAskableQuery (query : RpnQuery) : Type 0 where
  pub plain : IsPlainTree query.root
  pub small : tree_size query.root ≤ most_query_nodes
  pub shallow : tree_depth query.root ≤ most_query_depth
  pub cheap : tree_cost query.root ≤ most_query_cost

-- the query of a set is plain
abbrev pub HasPlainQuery : KnownSet → Type 0
HasPlainQuery set = IsPlainTree set.query.root

-- where the numbers of a query are within their range, and the queries of the sets are plain,
-- targets may be asked for its expansion
abbrev pub HasAskableExpansion : RpnQuery → List KnownSet → Result RpnQuery ExpandFault → Type 0
HasAskableExpansion query sets answer =
    QueryHasNumbers query → All HasPlainQuery sets → IfOk answer IsAskableQuery

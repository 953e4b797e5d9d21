-- For proofs alone: each part of a query has fewer nodes than the query (this project's own).
use Rattle.std.specs.Prelude.{◌≤◌, max}
use Rattle.std.proofs.Common.{arith}
use Rattle.cql_parse.specs.Tree.{tree_size}
use Rattle.cql_parse.specs.TreeOf.{tree_of}
use Rattle.cql_parse.specs.declared.tree.Cql.TheDeep.{deep-Node}
use Rattle.cql_parse.specs.declared.tree.Node.{Node}
use Rattle.cql_parse.specs.declared.tree.Node.TheVariants.{Clause, Joined, Prefix, Sorted}

pub child_falls : (n : Node) → max (deep-Node n) 0 ≤ tree_size (tree_of n)
child_falls (Clause head term) = omega arith
child_falls (Joined boolean modifiers l r) = omega arith
child_falls (Prefix name uri q) = omega arith
child_falls (Sorted q keys) = omega arith

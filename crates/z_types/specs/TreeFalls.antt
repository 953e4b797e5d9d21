-- For proofs alone: each part of a query has fewer nodes than the query (this project's own)
use Rattle.std.specs.Prelude.{◌≤◌, max}
use Rattle.std.proofs.Common.{arith}
use Rattle.z_types.specs.Tree.{tree_size}
use Rattle.z_types.specs.TreeOf.{tree_of}
use Rattle.z_types.specs.declared.query.Rpn.TheDeep.{deep-Node}
use Rattle.z_types.specs.declared.query.Node.{Node}
use Rattle.z_types.specs.declared.query.Node.TheVariants.{Leaf, Set, And, Or, AndNot}

pub child_falls : (n : Node) → max (deep-Node n) 0 ≤ tree_size (tree_of n)
child_falls (Leaf attrs term) = omega arith
child_falls (Set name) = omega arith
child_falls (And l r) = omega arith
child_falls (Or l r) = omega arith
child_falls (AndNot l r) = omega arith

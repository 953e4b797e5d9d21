-- For contracts alone: the structure of a query as it is kept behind pointers (this project's own)
use Rattle.z_types.specs.Tree.{Tree, leaf, operand, and, or, and_not}
use Rattle.z_types.specs.declared.query.Node.{Node}
use Rattle.z_types.specs.declared.query.Node.TheVariants.{Leaf, Set, And, Or, AndNot}

-- the structure that a node stands for
abbrev pub tree_of : Node → Tree
tree_of (Leaf attrs term) = leaf attrs term
tree_of (Set name) = operand name
tree_of (And l r) = and l.value r.value
tree_of (Or l r) = or l.value r.value
tree_of (AndNot l r) = and_not l.value r.value

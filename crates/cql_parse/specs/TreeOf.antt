-- For contracts alone: the tree of a query as it is kept (this project's own).
use Rattle.cql_parse.specs.Tree.{Tree, clause, joined, assigned, sorted}
use Rattle.cql_parse.specs.declared.tree.Node.{Node}
use Rattle.cql_parse.specs.declared.tree.Node.TheVariants.{Clause, Joined, Prefix, Sorted}

-- what stands behind a pointer is taken as it is
abbrev pub tree_of : Node → Tree
tree_of (Clause head term) = clause head term
tree_of (Joined boolean modifiers l r) = joined boolean modifiers l.value r.value
tree_of (Prefix name uri q) = assigned name uri q.value
tree_of (Sorted q keys) = sorted q.value keys

-- How deep and how costly a query is (this project's own); how many nodes it has is `tree_size`
use Rattle.std.specs.Prelude.{ℕ, ◌+◌, ◌*◌, List, length, max}
use Rattle.z_types.specs.Bounds.{within32, within64}
use Rattle.z_types.specs.declared.measures.Measures.{Measures}
use Rattle.z_types.specs.declared.query.Attr.{Attr}
use Rattle.z_types.specs.declared.query.Term.{Term}
use Rattle.z_types.specs.declared.query.Term.TheVariants.{General, Number, Words}
use Rattle.z_types.specs.Tree.{Tree, tree_size, leaf, operand, and, or, and_not}

-- levels: an operand is one, and an operator one more than the deeper of its sides
abbrev pub tree_depth : Tree → ℕ
tree_depth (leaf attrs term) = 1
tree_depth (operand name) = 1
tree_depth (and l r) = max (tree_depth l) (tree_depth r) + 1
tree_depth (or l r) = max (tree_depth l) (tree_depth r) + 1
tree_depth (and_not l r) = max (tree_depth l) (tree_depth r) + 1

-- each node
abbrev pub node_cost : ℕ
node_cost = 64

-- each attribute
abbrev pub attribute_cost : ℕ
attribute_cost = 192

-- a number as a term
abbrev pub number_cost : ℕ
number_cost = 8

-- a term: its octets, or a number
abbrev pub term_cost : Term → ℕ
term_cost (General text) = length text
term_cost (Number value) = number_cost
term_cost (Words text) = length text

-- an operand: a node, its attributes and its term
abbrev pub leaf_cost : List Attr → Term → ℕ
leaf_cost attrs term = node_cost + attribute_cost * length attrs + term_cost term

-- a structure: all its nodes
abbrev pub tree_cost : Tree → ℕ
tree_cost (leaf attrs term) = leaf_cost attrs term
tree_cost (operand name) = node_cost
tree_cost (and l r) = tree_cost l + tree_cost r + node_cost
tree_cost (or l r) = tree_cost l + tree_cost r + node_cost
tree_cost (and_not l r) = tree_cost l + tree_cost r + node_cost

-- the nodes, levels and cost of a structure, each at most its type's end
abbrev pub measures_of : Tree → Measures
measures_of tree = record {
  nodes = within64 (tree_size tree);
  levels = within32 (tree_depth tree);
  cost = within64 (tree_cost tree);
}

-- the measures of an operator on two structures of these
abbrev pub joined : Measures → Measures → Measures
joined l r = record {
  nodes = within64 (within64 (l.nodes + r.nodes) + 1);
  levels = within32 (max l.levels r.levels + 1);
  cost = within64 (within64 (l.cost + r.cost) + node_cost);
}

use Rattle.route_text.proofs.TreeLemmas.{read-tree}
use Rattle.route_text.proofs.read.read_route.Goals as goal

pub returns-in-Ok : goal.returns-in-Ok
returns-in-Ok c = read-tree _ _ _ c.in-Ok.ensures c.read_tree_route.ensures

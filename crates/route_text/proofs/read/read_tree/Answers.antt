use Rattle.std.proofs.Common.{refl, rules, tests}
use Rattle.toml.proofs.Views.{view-Table}
use Rattle.route_text.proofs.TreeLemmas.{tree-some, tree-none}
use Rattle.route_text.proofs.read.read_tree.Goals as goal

pub returns-in-Ok : goal.returns-in-Ok
returns-in-Ok c = tree-some c.args.text.now _ _ c.in-Ok.ensures.ok.0 c.in-Ok.ensures.ok.1 (view-Table c.in-Ok.table)

pub returns-else-is_memory : goal.returns-else-is_memory
returns-else-is_memory c = λ some. (refl, tree-none c.args.text.now (c.in-Err.ensures.refused (search (rules, tests))))

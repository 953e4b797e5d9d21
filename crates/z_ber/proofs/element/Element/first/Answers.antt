use Rattle.z_ber.proofs.LentTreeLemmas.{first_of_tree}
use Rattle.z_ber.proofs.element.Element.first.Goals as goal

pub returns-in-Ok-clause-tree : goal.returns-in-Ok-clause-tree
returns-in-Ok-clause-tree c = first_of_tree c.args.bytes.now _ (_, c.in-Ok.ensures.lent)

pub returns-in-Err-clause-tree : goal.returns-in-Err-clause-tree
returns-in-Err-clause-tree c = first_of_tree c.args.bytes.now _ c.in-Err.ensures.refused

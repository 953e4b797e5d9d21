use Rattle.z_ber.proofs.TreeLaws.{element_one}
use Rattle.z_ber.proofs.laws.one_tree.Goals as goal

pub returns : goal.returns
returns c = element_one

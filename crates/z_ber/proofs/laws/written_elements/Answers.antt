use Rattle.z_ber.proofs.WrittenTrees.{leaf-written, branch-written, list-written}
use Rattle.z_ber.proofs.laws.written_elements.Goals as goal

pub returns : goal.returns
returns c = record { primitive = leaf-written; constructed = branch-written; list = list-written }

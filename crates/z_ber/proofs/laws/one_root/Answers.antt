use Rattle.z_ber.proofs.LendLaws.{element-root}
use Rattle.z_ber.proofs.laws.one_root.Goals as goal

pub returns : goal.returns
returns c = element-root

use Rattle.z_ber.proofs.LendLaws.{extent-one}
use Rattle.z_ber.proofs.laws.one_extent.Goals as goal

pub returns : goal.returns
returns c = extent-one

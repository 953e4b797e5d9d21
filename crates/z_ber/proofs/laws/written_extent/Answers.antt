use Rattle.z_ber.proofs.WrittenLaws.{element-extent}
use Rattle.z_ber.proofs.laws.written_extent.Goals as goal

pub returns : goal.returns
returns c = element-extent

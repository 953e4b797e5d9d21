use Rattle.z_ber.proofs.ElementLaws.{element-one}
use Rattle.z_ber.proofs.laws.one_element.Goals as goal

pub returns : goal.returns
returns c = element-one

use Rattle.package.proofs.OverLemmas.{is_answered}
use Rattle.package.proofs.laws.package_is_answered.Goals as goal

pub returns : goal.returns
returns g c = is_answered g.W.World g.S.Sitting

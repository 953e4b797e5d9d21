use Rattle.package_rules.proofs.FinishedIs.{finished-is}
use Rattle.package_rules.proofs.laws.finished_is_outcome.Goals as goal

pub returns : goal.returns
returns g c = finished-is g.W.World

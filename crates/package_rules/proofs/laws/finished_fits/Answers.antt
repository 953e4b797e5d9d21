use Rattle.package_rules.proofs.FinishedFit.{finished-fits}
use Rattle.package_rules.proofs.laws.finished_fits.Goals as goal

pub returns : goal.returns
returns g c = finished-fits g.W.World

use Rattle.package_quiet.proofs.PackageBearing.{all-stay}
use Rattle.package_quiet.proofs.laws.bearing_stays.Goals as goal

pub returns : goal.returns
returns g c = λ route old new legs worse bear. all-stay g.W.World g.S.Sitting route old new legs worse bear

use Rattle.package_quiet.proofs.PackageBearing.{package-dials}
use Rattle.package_quiet.proofs.laws.packages_dial_on.Goals as goal

pub returns : goal.returns
returns g c = λ exact route now old new answer door after backend moved h go.
    package-dials g.W.World g.S.Sitting exact route now old new answer door after backend moved h go

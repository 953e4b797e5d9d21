use Rattle.package_quiet.proofs.PackageBearing.{package-bears}
use Rattle.package_quiet.proofs.laws.packages_bear.Goals as goal

pub returns : goal.returns
returns g c = λ exact route now old new answer door after backend moved e told h go borne bear.
    package-bears g.W.World g.S.Sitting exact route now old new answer door after backend moved e told h go borne bear

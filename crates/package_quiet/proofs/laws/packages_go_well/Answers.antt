use Rattle.package_quiet.proofs.PackageLemmas.{package-well}
use Rattle.package_quiet.proofs.laws.packages_go_well.Goals as goal

pub returns : goal.returns
returns g c = λ exact route now old new answer door after backend moved e told h calm well.
    package-well g.W.World g.S.Sitting exact route now e told old new answer door after backend moved h calm well

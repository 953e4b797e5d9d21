use Rattle.package_quiet.proofs.PackageLemmas.{new-well}
use Rattle.package_quiet.proofs.laws.begun_is_well.Goals as goal

pub returns : goal.returns
returns g c = λ route work. new-well g.W.World g.S.Sitting route work

use Rattle.package_shares.proofs.PackageLemmas.{package-begins}
use Rattle.package_shares.proofs.laws.begun_shares.Goals as goal

pub returns : goal.returns
returns g c = λ route now before work pool kept. package-begins g.W.World g.S.Sitting route now before pool kept work

use Rattle.std.proofs.Common.{refl, true}
use Rattle.package_shares.proofs.RequestLemmas.{package-may}
use Rattle.package_shares.proofs.laws.packages_may_share.Goals as goal

pub returns : goal.returns
returns g c = λ route now before work most view fair sound may is of.
    package-may g.W.World g.S.Sitting true route now before work refl fair sound may most view is of

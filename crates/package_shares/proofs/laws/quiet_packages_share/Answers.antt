use Rattle.std.proofs.Common.{◌++◌}
use Rattle.package_quiet.proofs.PackageLemmas.{package-well}
use Rattle.package_shares.proofs.PackageLemmas.{package-shares, undisturbed}
use Rattle.package_shares.proofs.laws.quiet_packages_share.Goals as goal

pub returns : goal.returns
returns g c = λ exact route now before old new answer door after backend moved pool may h has e at calm well told shares.
    let on = package-well g.W.World g.S.Sitting exact route now e at old new answer door after backend moved h calm well in
    package-shares g.W.World g.S.Sitting exact route now before old new answer door after backend moved pool may h has
    (undisturbed g.W.World g.S.Sitting route (new.first ++ new.later) on.0) told shares

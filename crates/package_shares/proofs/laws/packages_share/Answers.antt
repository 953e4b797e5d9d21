use Rattle.package_shares.proofs.PackageLemmas.{package-shares}
use Rattle.package_shares.proofs.laws.packages_share.Goals as goal

pub returns : goal.returns
returns g c = λ exact route now before old new answer door after backend moved pool may h has none told shares.
    package-shares g.W.World g.S.Sitting exact route now before old new answer door after backend moved pool may h has none told shares

use Rattle.std.proofs.Common.{refl, true}
use Rattle.package_shares.proofs.RequestLemmas.{begun-may}
use Rattle.package_shares.proofs.laws.begun_may_share.Goals as goal

pub returns : goal.returns
returns g c = λ route now before work fair sound may.
    begun-may g.W.World g.S.Sitting true route now before work refl fair sound may

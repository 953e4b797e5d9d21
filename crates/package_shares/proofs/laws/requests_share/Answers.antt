use Rattle.package_shares.proofs.RequestLemmas.{request-shares}
use Rattle.package_shares.proofs.laws.requests_share.Goals as goal

pub returns : goal.returns
returns g c = λ exact route now before work first last earlier counts fair sound may is kept turns over.
    request-shares g.W.World g.S.Sitting exact route now before work counts fair sound may first last earlier is kept turns over

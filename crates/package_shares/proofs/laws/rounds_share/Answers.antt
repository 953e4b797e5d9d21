use Rattle.package_shares.proofs.RoundLemmas.{round-shares}
use Rattle.package_shares.proofs.laws.rounds_share.Goals as goal

pub returns : goal.returns
returns g c = λ exact route now before olds news round last door after backend moved pool may h had none told share.
    (round-shares g.W.World g.S.Sitting exact route now before olds news round last door after backend moved pool may h had none told share).0

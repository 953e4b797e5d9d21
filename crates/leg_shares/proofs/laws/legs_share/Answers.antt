use Rattle.leg_shares.proofs.ThroughLemmas.{leg-shares}
use Rattle.leg_shares.proofs.laws.legs_share.Goals as goal

pub returns : goal.returns
returns g c = λ exact route login place now before task pool points may of kept rest goes done.
    leg-shares g.W.World g.S.Sitting exact route login place now before task may pool points of kept rest goes done

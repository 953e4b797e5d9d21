use Rattle.leg_shares.proofs.TurnLemmas.{turn-shares}
use Rattle.leg_shares.proofs.laws.turns_share.Goals as goal

pub returns : goal.returns
returns g c = λ exact route login place now before task old new a b answer door after backend moved pool may rest told of turn on shares.
    turn-shares g.W.World g.S.Sitting exact route login place now before task old new a b answer door after backend moved pool may rest told of turn on shares

use Rattle.front_conn_seats.proofs.LegLemmas.{turn-keeps}
use Rattle.front_conn_seats.proofs.laws.turns_keep_seats.Goals as goal

pub returns : goal.returns
returns g c = λ exact terms task now old new a b answer door after backend moved others h held.
    turn-keeps g.W.World g.S.Sitting exact terms task now old new a b answer door after backend moved others h held

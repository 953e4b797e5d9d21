use Rattle.front_conn_seats.proofs.ThroughLemmas.{alone-gives-back}
use Rattle.front_conn_seats.proofs.laws.runs_alone_give_back.Goals as goal

pub returns : goal.returns
returns g c = λ exact route pool points seat a h. alone-gives-back g.W.World g.S.Sitting exact route pool points seat a h

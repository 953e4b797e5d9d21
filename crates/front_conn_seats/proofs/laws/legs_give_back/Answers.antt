use Rattle.front_conn_seats.proofs.LegLemmas.{leg-gives-back}
use Rattle.front_conn_seats.proofs.laws.legs_give_back.Goals as goal

pub returns : goal.returns
returns g c = λ task phase before behind others e h. leg-gives-back task phase before behind others e h

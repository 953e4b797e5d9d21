use Rattle.front_conn_seats.proofs.ConnLemmas.{connection-gives-back}
use Rattle.front_conn_seats.proofs.laws.connections_give_back.Goals as goal

pub returns : goal.returns
returns g c = λ state before behind others e h. connection-gives-back state before behind others e h

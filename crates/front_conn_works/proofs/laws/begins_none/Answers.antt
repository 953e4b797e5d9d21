use Rattle.front_conn_works.proofs.BegunLemmas.{new-begun}
use Rattle.front_conn_works.proofs.laws.begins_none.Goals as goal

pub returns : goal.returns
returns g c = λ route. new-begun g.W.World g.row.S.Denot route

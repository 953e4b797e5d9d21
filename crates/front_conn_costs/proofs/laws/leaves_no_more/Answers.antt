use Rattle.front_conn_costs.proofs.KeptLemmas.{leaves}
use Rattle.front_conn_costs.proofs.laws.leaves_no_more.Goals as goal

pub returns : goal.returns
returns g c = λ pool kind state. leaves pool kind state

use Rattle.front_conn_costs.proofs.KeptLemmas.{starts}
use Rattle.front_conn_costs.proofs.laws.starts_costless.Goals as goal

pub returns : goal.returns
returns g c = λ route. starts route

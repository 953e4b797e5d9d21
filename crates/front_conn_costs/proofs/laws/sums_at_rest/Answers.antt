use Rattle.front_conn_costs.proofs.KeptLemmas.{summed}
use Rattle.front_conn_costs.proofs.laws.sums_at_rest.Goals as goal

pub returns : goal.returns
returns g c = λ state rests. summed state rests

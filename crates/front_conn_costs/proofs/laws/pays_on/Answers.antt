use Rattle.front_conn_costs.proofs.PaidLemmas.{paid-on}
use Rattle.front_conn_costs.proofs.laws.pays_on.Goals as goal

pub returns : goal.returns
returns g c = λ old mid new before amid behind one other. paid-on old mid new before amid behind one other

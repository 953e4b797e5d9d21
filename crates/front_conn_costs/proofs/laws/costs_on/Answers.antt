use Rattle.front_conn_costs.proofs.CostLemmas.{costed-on}
use Rattle.front_conn_costs.proofs.laws.costs_on.Goals as goal

pub returns : goal.returns
returns g c = λ exact route old mid new before amid behind one other. costed-on exact route old mid new before amid behind one other

use Rattle.front_conn_costs.proofs.CostLemmas.{costs-none}
use Rattle.front_conn_costs.proofs.laws.costs_nothing.Goals as goal

pub returns : goal.returns
returns g c = λ exact route state outside. costs-none exact route state outside

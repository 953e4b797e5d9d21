use Rattle.front_conn_costs.proofs.CostLemmas.{stays-costed}
use Rattle.front_conn_costs.proofs.laws.stays_costed.Goals as goal

pub returns : goal.returns
returns g c = λ exact route state outside. stays-costed exact route state outside

use Rattle.front_conn_costs.proofs.CostLemmas.{step-costs}
use Rattle.front_conn_costs.proofs.laws.steps_cost.Goals as goal

pub returns : goal.returns
returns g c = λ exact route now old new answer before behind sound of h.
    step-costs g.W.World g.S.Sitting exact route now old new answer before behind sound of h

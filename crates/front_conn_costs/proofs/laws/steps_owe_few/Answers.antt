use Rattle.std.proofs.Common.{refl}
use Rattle.front_conn_costs.proofs.FewLemmas.{step-few}
use Rattle.front_conn_costs.proofs.laws.steps_owe_few.Goals as goal

pub returns : goal.returns
returns g c = λ exact route now old new answer before behind goes h.
    step-few g.W.World g.S.Sitting exact route now old new answer before behind old.end old.in_work goes refl h

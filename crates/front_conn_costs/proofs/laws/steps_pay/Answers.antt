use Rattle.std.proofs.Common.{refl}
use Rattle.front_conn_costs.proofs.PaidLemmas.{step-pays}
use Rattle.front_conn_costs.proofs.laws.steps_pay.Goals as goal

pub returns : goal.returns
returns g c = λ exact route now old new answer before behind of h.
    step-pays g.W.World g.S.Sitting exact route now old new answer before behind of old.end old.in_work refl refl h

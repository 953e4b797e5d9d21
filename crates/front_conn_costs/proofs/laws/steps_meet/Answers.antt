use Rattle.std.proofs.Common.{refl}
use Rattle.front_conn_costs.proofs.ConnLemmas.{step-meets}
use Rattle.front_conn_costs.proofs.laws.steps_meet.Goals as goal

pub returns : goal.returns
returns g c = λ exact route now old new answer before behind of h.
    step-meets g.W.World g.S.Sitting exact route now old new answer before behind of old.end old.in_work refl refl h

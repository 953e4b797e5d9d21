use Rattle.std.proofs.Common.{refl}
use Rattle.front_conn_costs.proofs.ConnLemmas.{step-counts}
use Rattle.front_conn_costs.proofs.laws.steps_count.Goals as goal

pub returns : goal.returns
returns g c = λ exact route now old new answer before behind sound of has h.
    step-counts g.W.World g.S.Sitting exact route now old new answer before behind of old.end old.in_work refl refl sound has h

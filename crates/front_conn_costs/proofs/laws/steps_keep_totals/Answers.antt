use Rattle.std.proofs.Common.{refl}
use Rattle.front_conn_costs.proofs.KeptLemmas.{step-has}
use Rattle.front_conn_costs.proofs.laws.steps_keep_totals.Goals as goal

pub returns : goal.returns
returns g c = λ exact route now old new answer before behind has h.
    step-has route g.W.World g.S.Sitting exact now old new answer before behind old.end old.in_work refl refl has h

use Rattle.front_conn_works.proofs.StepWorks.{lacking-begins}
use Rattle.front_conn_works.proofs.laws.lacking_begins_none.Goals as goal

pub returns : goal.returns
returns g c = λ exact route now old new before behind s. lacking-begins g.W.World g.S.Sitting exact route now old new before behind s

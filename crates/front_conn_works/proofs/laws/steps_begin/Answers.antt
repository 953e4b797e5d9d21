use Rattle.front_conn_works.proofs.StepWorks.{step-begins}
use Rattle.front_conn_works.proofs.laws.steps_begin.Goals as goal

pub returns : goal.returns
returns g c = λ exact route now fed written old new answer before behind begun fair other state s keeps h. step-begins g.W.World g.S.Sitting exact route now fed written old new answer before behind begun fair other state s keeps h

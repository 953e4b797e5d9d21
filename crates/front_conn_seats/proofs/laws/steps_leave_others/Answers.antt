use Rattle.front_conn_seats.proofs.ConnLemmas.{step-leaves}
use Rattle.front_conn_seats.proofs.laws.steps_leave_others.Goals as goal

pub returns : goal.returns
returns g c = λ exact route now old new answer before behind held others of h are.
    step-leaves g.W.World g.S.Sitting exact route now old new answer before behind held others of h are

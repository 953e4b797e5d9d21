use Rattle.front_conn_seats.proofs.ConnLemmas.{step-keeps}
use Rattle.front_conn_seats.proofs.laws.steps_keep_seats.Goals as goal

pub returns : goal.returns
returns g c = λ exact route now old new answer before behind others of h held.
    step-keeps g.W.World g.S.Sitting exact route now old new answer before behind others of h held

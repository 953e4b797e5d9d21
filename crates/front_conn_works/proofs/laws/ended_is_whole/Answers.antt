use Rattle.front_conn_works.proofs.BegunLemmas.{ended-whole}
use Rattle.front_conn_works.proofs.laws.ended_is_whole.Goals as goal

pub returns : goal.returns
returns g c = λ route fed state end begun over h. ended-whole g.W.World route fed state end begun over h

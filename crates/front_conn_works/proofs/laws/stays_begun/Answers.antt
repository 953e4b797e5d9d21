use Rattle.front_conn_works.proofs.BegunLemmas.{stays-begun}
use Rattle.front_conn_works.proofs.laws.stays_begun.Goals as goal

pub returns : goal.returns
returns g c = λ route fed state begun h. stays-begun g.W.World route fed state begun h

use Rattle.front_conn_works.proofs.BegunLemmas.{begun-one}
use Rattle.front_conn_works.proofs.laws.begun_is_one.Goals as goal

pub returns : goal.returns
returns g c = λ route fed state begun other h k. begun-one g.W.World route fed state begun other h k

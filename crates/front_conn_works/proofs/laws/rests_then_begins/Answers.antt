use Rattle.front_conn_works.proofs.SinceWorks.{rests-then-begins}
use Rattle.front_conn_works.proofs.laws.rests_then_begins.Goals as goal

pub returns : goal.returns
returns g c = rests-then-begins g.W.World g.S.Sitting c.goes_begin.ensures

use Rattle.std.proofs.Common.{[]}
use Rattle.front_conn_works.specs.steps.Through.{at_first}
use Rattle.front_conn_works.proofs.BegunLemmas.{new-begun}
use Rattle.front_conn_works.proofs.laws.runs_begin.Goals as goal

pub returns : goal.returns
returns g c = λ exact route points fair other goes.
    c.goes_begin.ensures exact route at_first points [] fair other (c.stands_at_start.ensures route) goes
    (new-begun g.W.World g.row.S.Denot route)

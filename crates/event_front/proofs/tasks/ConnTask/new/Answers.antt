use Rattle.std.proofs.Common.{subst, sym}
use Rattle.conn_served.specs.front_conn.steps.States.{ConnectionState}
use Rattle.event_front.specs.Edges.{streams}
use Rattle.event_front.specs.Tasks.{IsOpen, OwesFew}
use Rattle.event_front.proofs.TaskLemmas.{open-starts, owes-first}
use Rattle.event_front.proofs.tasks.ConnTask.new.Goals as goal

pub returns-clause-stands : goal.returns-clause-stands
returns-clause-stands g c = λ route.
    let start = streams g.I.EdgeSource g.K.EdgeSink c.args.input c.args.output in
    subst (λ (s : ConnectionState g.row.S.Denot). IsOpen g.W.World route start start s 0) (sym c.new.ensures.new)
    (open-starts g.W.World g.S.Sitting route start c.stands_at_start.ensures)

pub returns-clause-owes : goal.returns-clause-owes
returns-clause-owes g c = subst (λ (s : ConnectionState g.row.S.Denot). OwesFew s) (sym c.new.ensures.new) owes-first

use Rattle.std.proofs.Common.{refl, subst, sym}
use Rattle.conn_served.specs.front_conn.steps.States.{ConnectionState}
use Rattle.conn_served.specs.steps.Serving.{IsWrittenOut}
use Rattle.event_front.specs.Edges.{sink_view}
use Rattle.event_front.proofs.TaskLemmas.{open-on, open-unwritten, open-whole}
use Rattle.event_front.proofs.rounds.write_out.Goals as goal

pub returns-in-Whole-clause-goes : goal.returns-in-Whole-clause-goes
returns-in-Whole-clause-goes g c = λ route start input at.
    subst
    (λ (s : ConnectionState g.row.S.Denot).
    IsWrittenOut g.W.World route start (record { input = input; output = sink_view g.K.EdgeSink c.write_on.new.sink }) s)
    (sym c.clear_out.ensures)
    (open-whole g.W.World g.S.Sitting route start input (sink_view g.K.EdgeSink c.write_on.new.sink) c.args.conn.now c.write_on.new.done
    c.stands_when_written.ensures (rw c.out.ensures at c.in-Whole.ensures.ends)
    (open-on g.W.World g.S.Sitting route start input (sink_view g.K.EdgeSink c.args.output.now) (sink_view g.K.EdgeSink c.write_on.new.sink)
    c.args.conn.now c.args.written.now c.write_on.new.done (rw c.out.ensures at c.in-Whole.ensures.received) c.in-Whole.ensures.faults at))

pub returns-in-NotReady-clause-goes : goal.returns-in-NotReady-clause-goes
returns-in-NotReady-clause-goes g c = λ route start input at.
    open-on g.W.World g.S.Sitting route start input (sink_view g.K.EdgeSink c.args.output.now) (sink_view g.K.EdgeSink c.write_on.new.sink)
    c.args.conn.now c.args.written.now c.write_on.new.done (rw c.out.ensures at c.in-NotReady.ensures.received) c.in-NotReady.ensures.faults at

pub returns-in-Failed-clause-goes : goal.returns-in-Failed-clause-goes
returns-in-Failed-clause-goes g c = λ route start input at.
    open-unwritten g.W.World g.S.Sitting route start input (sink_view g.K.EdgeSink c.args.output.now) (sink_view g.K.EdgeSink c.write_on.new.sink)
    c.args.conn.now c.args.written.now c.write_on.new.done (rw c.out.ensures at c.in-Failed.ensures.received)
    (c.in-Failed.ensures.failed refl) (rw c.out.ensures at c.in-Failed.ensures.ends) at

pub returns-in-Failed-clause-some : goal.returns-in-Failed-clause-some
returns-in-Failed-clause-some g c = λ e. rw c.out.ensures at c.in-Failed.ensures.ends

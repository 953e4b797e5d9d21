use Rattle.std.proofs.Common.{◌≡◌, ◌≤◌, length}
use Rattle.conn_served.specs.Serving.{Streams}
use Rattle.conn_served.specs.front_conn.steps.Drives.{conn_at}
use Rattle.conn_served.specs.front_conn.steps.States.{IsConnOf}
use Rattle.conn_served.specs.steps.Rounds.{GoesSo}
use Rattle.event_front.specs.Edges.{source_view, streams}
use Rattle.event_front.specs.Polls.{MakesRounds, Reads, most_read}
use Rattle.event_front.specs.Tasks.{IsOpen, OwesFew}
use Rattle.event_front.proofs.rounds.make_rounds.Given as goal

-- each round so far made its step
abbrev pub invariant-loop-step : goal.invariant-loop-step
invariant-loop-step g l = record {
  within : l.written ≤ length l.conn.out;
  of : IsConnOf g.W.World g.S.Sitting l.route (g.D.Door.counts l.door).most l.conn;
  most : (g.D.Door.counts l.door).most ≡ (g.D.Door.counts l.fn.door).most;
  goes : (start : Streams)
      → IsOpen g.W.World l.route start (streams g.I.EdgeSource g.K.EdgeSink l.fn.input l.fn.output) l.fn.conn l.fn.written
      → IsOpen g.W.World l.route start (streams g.I.EdgeSource g.K.EdgeSink l.input l.output) l.conn l.written;
  so : GoesSo g.W.World g.S.Sitting g.B.Watched.exact l.route
      (conn_at g.D.Door g.B.Watched l.fn.conn l.fn.door l.fn.backend) (conn_at g.D.Door g.B.Watched l.conn l.door l.backend);
  owes : OwesFew l.fn.conn → OwesFew l.conn;
  steps : MakesRounds g.W.World g.S.Sitting g.B.Watched.exact l.route l._step
      (conn_at g.D.Door g.B.Watched l.fn.conn l.fn.door l.fn.backend) (conn_at g.D.Door g.B.Watched l.conn l.door l.backend);
  reads : Reads most_read l.left (source_view g.I.EdgeSource l.fn.input) (source_view g.I.EdgeSource l.input);
  input : g.I.EdgeSource.waits l.fn.input ≤ g.I.EdgeSource.waits l.input;
  output : g.K.EdgeSink.waits l.fn.output ≤ g.K.EdgeSink.waits l.output;
}

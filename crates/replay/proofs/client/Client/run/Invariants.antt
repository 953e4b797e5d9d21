use Rattle.std.proofs.Common.{◌≡◌, List}
use Rattle.front_conn_costs.specs.front_conn.steps.States.{IsConnOf}
use Rattle.replay.specs.Trace.{AreSteps, Point, outside_of}
use Rattle.replay.proofs.client.Client.run.Given as goal

-- the steps so far, none of which found it idle
abbrev pub invariant-loop : goal.invariant-loop
invariant-loop g l = record {
  most : (g.D.Door.counts l.door).most ≡ (g.D.Door.counts l.fn.door).most;
  of : IsConnOf g.W.World g.S.Sitting l.route (g.D.Door.counts l.door).most l.self.conn;
  earlier : List (Point g.row.S.Denot);
  steps : AreSteps g.W.World g.S.Sitting g.B.Watched.exact l.route l.now
      (record { client = l.fn.self; outside = outside_of g.D.Door g.B.Watched l.fn.door l.fn.backend }) earlier
      (record { client = l.self; outside = outside_of g.D.Door g.B.Watched l.door l.backend });
}

use Rattle.std.proofs.Common.{◌≡◌, ◌≤◌}
use Rattle.conn_served.specs.Costs.{tally_of}
use Rattle.conn_served.specs.Seats.{AreGivenBack}
use Rattle.serve.specs.Working.{HasWorked, HaveCost, worker_view}
use Rattle.serve.proofs.working.serve_all.Given as goal

abbrev pub invariant-loop-round : goal.invariant-loop-round
invariant-loop-round g l = record {
  worked : HasWorked g.W.World g.A.In.Source g.A.Out.Sink l.route
      (worker_view g.A.Accept l.fn.served l.fn.accept)
      (worker_view g.A.Accept l.served l.accept);
  cost : HaveCost l.route.pool l.fn.served l.served
      (tally_of g.D.Door g.B.Watched l.fn.door l.fn.backend) (tally_of g.D.Door g.B.Watched l.door l.backend);
  seats : AreGivenBack (g.D.Door.pool l.fn.door) (g.D.Door.pool l.door);
  faults : g.A.Accept.faults l.fn.accept ≤ g.A.Accept.faults l.accept;
  most : (g.D.Door.counts l.door).most ≡ (g.D.Door.counts l.fn.door).most;
}

use Rattle.std.proofs.Common.{◌≡◌}
use Rattle.event_front.specs.conn_served.front_conn.steps.Drives.{outside_of}
use Rattle.event_loop.specs.Fronts.{front_view}
use Rattle.event_loop.specs.steps.Places.{GoesOnWith}
use Rattle.event_loop.proofs.rounds.serve_all.Given as goal

abbrev pub invariant-loop-place : goal.invariant-loop-place
invariant-loop-place g l = record {
  keeps : GoesOnWith g.W.World g.S.Sitting g.A.In.EdgeSource g.A.Out.EdgeSink l.route l.fn.places l.places
      (front_view g.A.EdgeAccept l.fn.served l.fn.accept) (front_view g.A.EdgeAccept l.served l.accept)
      (outside_of g.D.Door g.B.Watched l.fn.door l.fn.backend) (outside_of g.D.Door g.B.Watched l.door l.backend);
  left : g.A.EdgeAccept.left l.accept ≡ g.A.EdgeAccept.left l.fn.accept;
  faults : g.A.EdgeAccept.faults l.accept ≡ g.A.EdgeAccept.faults l.fn.accept;
}

use Rattle.std.proofs.Common.{◌≡◌, List}
use Rattle.event_front.specs.conn_served.declared.served.Served.{Served}
use Rattle.event_front.specs.conn_served.leg.Deeds.{BackendView}
use Rattle.event_loop.specs.Fronts.{front_view}
use Rattle.event_loop.specs.steps.Places.{outside_with}
use Rattle.event_loop.proofs.FrontLemmas.{GivesBelow}
use Rattle.event_loop.proofs.rounds.abandon_all.Given as goal

abbrev pub invariant-loop-place : goal.invariant-loop-place
invariant-loop-place g l = record {
  gives : (served : List Served) (backend : BackendView)
      → GivesBelow g.W.World g.S.Sitting g.A.In.EdgeSource g.A.Out.EdgeSink l.route l.fn.places l.place l.places
      (front_view g.A.EdgeAccept served l.fn.accept) (front_view g.A.EdgeAccept served l.accept)
      (outside_with g.D.Door l.fn.door backend) (outside_with g.D.Door l.door backend);
  left : g.A.EdgeAccept.left l.accept ≡ g.A.EdgeAccept.left l.fn.accept;
  faults : g.A.EdgeAccept.faults l.accept ≡ g.A.EdgeAccept.faults l.fn.accept;
}

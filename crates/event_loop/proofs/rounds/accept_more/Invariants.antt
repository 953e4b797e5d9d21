use Rattle.std.proofs.Common.{◌≤◌, List}
use Rattle.route_config.specs.declared.route.Route.{Route}
use Rattle.event_front.specs.conn_served.declared.served.Served.{Served}
use Rattle.event_front.specs.conn_served.front_conn.steps.Answering.{Outside}
use Rattle.event_loop.specs.Fronts.{front_view}
use Rattle.event_loop.specs.steps.Places.{GoesOnWith}
use Rattle.event_loop.proofs.rounds.accept_more.Given as goal

abbrev pub invariant-loop-place : goal.invariant-loop-place
invariant-loop-place g l = record {
  keeps : (route : Route) (served : List Served) (here : Outside g.row.S.Denot)
      → GoesOnWith g.W.World g.S.Sitting g.A.In.EdgeSource g.A.Out.EdgeSink route l.fn.places l.places
      (front_view g.A.EdgeAccept served l.fn.accept) (front_view g.A.EdgeAccept served l.accept) here here;
  faults : g.A.EdgeAccept.faults l.fn.accept ≤ g.A.EdgeAccept.faults l.accept;
}

use Rattle.std.proofs.Common.{[], refl}
use Rattle.event_front.specs.conn_served.front_conn.steps.Drives.{outside_of}
use Rattle.event_loop.specs.Fronts.{front_view}
use Rattle.event_loop.specs.declared.fronted.Fronted.TheVariants as fronted
use Rattle.event_loop.proofs.FrontLemmas.{gone-first, seats-to, served-to}
use Rattle.event_loop.proofs.fronts.serve_places.Goals as goal

pub returns-in-Err-clause-served : goal.returns-in-Err-clause-served
returns-in-Err-clause-served g c =
    let start = front_view g.A.EdgeAccept c.args.served.now c.args.accept.now in
    let before = outside_of g.D.Door g.B.Watched c.args.door.now c.args.backend.now in
    served-to g.W.World g.S.Sitting g.A.In.EdgeSource g.A.Out.EdgeSink c.args.route.now fronted.Memory start before [] start before start.left tt refl
    (gone-first g.W.World g.S.Sitting g.A.In.EdgeSource g.A.Out.EdgeSink c.args.route.now start before)

pub returns-in-Err-clause-seats : goal.returns-in-Err-clause-seats
returns-in-Err-clause-seats g c =
    let start = front_view g.A.EdgeAccept c.args.served.now c.args.accept.now in
    let before = outside_of g.D.Door g.B.Watched c.args.door.now c.args.backend.now in
    seats-to g.W.World g.S.Sitting g.A.In.EdgeSource g.A.Out.EdgeSink c.args.route.now start before [] start before (gone-first g.W.World g.S.Sitting g.A.In.EdgeSource g.A.Out.EdgeSink c.args.route.now start before)

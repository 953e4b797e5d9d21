use Rattle.event_front.specs.conn_served.front_conn.steps.Drives.{outside_of}
use Rattle.event_loop.specs.Fronts.{front_view}
use Rattle.event_loop.proofs.FrontLemmas.{all-gone, most-to, seats-to, served-to, some-first, some-on}
use Rattle.event_loop.proofs.fronts.serve_empty.Goals as goal

pub make_rounds-fronted-requires : goal.make_rounds-fronted-requires
make_rounds-fronted-requires g c = record {
  front = some-first g.W.World g.S.Sitting g.A.In.EdgeSource g.A.Out.EdgeSink c.args.route.now c.args.places.now c.requires.none
      (front_view g.A.EdgeAccept c.args.served.now c.args.accept.now) (outside_of g.D.Door g.B.Watched c.args.door.now c.args.backend.now);
}

pub abandon_all-requires : goal.abandon_all-requires
abandon_all-requires g c =
    let start = front_view g.A.EdgeAccept c.args.served.now c.args.accept.now in
    let before = outside_of g.D.Door g.B.Watched c.args.door.now c.args.backend.now in
    record {
      front = (
        c.make_rounds-fronted.new.served,
        record {
          counts = g.B.Watched.counts c.make_rounds-fronted.new.backend;
          happened = g.B.Watched.happened c.make_rounds-fronted.new.backend;
        },
        some-on g.W.World g.S.Sitting g.A.In.EdgeSource g.A.Out.EdgeSink c.args.route.now c.args.places.now c.make_rounds-fronted.new.places
            start (front_view g.A.EdgeAccept c.make_rounds-fronted.new.served c.make_rounds-fronted.new.accept) before (outside_of g.D.Door g.B.Watched c.make_rounds-fronted.new.door c.make_rounds-fronted.new.backend)
            c.make_rounds-fronted.ensures.keeps (some-first g.W.World g.S.Sitting g.A.In.EdgeSource g.A.Out.EdgeSink c.args.route.now c.args.places.now c.requires.none start before),
      );
    }

pub returns-clause-served : goal.returns-clause-served
returns-clause-served g c =
    let start = front_view g.A.EdgeAccept c.args.served.now c.args.accept.now in
    let before = outside_of g.D.Door g.B.Watched c.args.door.now c.args.backend.now in
    let now = front_view g.A.EdgeAccept c.make_rounds-fronted.new.served c.make_rounds-fronted.new.accept in
    let here = outside_of g.D.Door g.B.Watched c.make_rounds-fronted.new.door c.make_rounds-fronted.new.backend in
    let then = front_view g.A.EdgeAccept c.make_rounds-fronted.new.served c.abandon_all.new.accept in
    let next = outside_of g.D.Door g.B.Watched c.abandon_all.new.door c.make_rounds-fronted.new.backend in
    let all = all-gone g.W.World g.S.Sitting g.A.In.EdgeSource g.A.Out.EdgeSink c.args.route.now c.args.places.now c.make_rounds-fronted.new.places c.requires.none start now then before here next
    c.make_rounds-fronted.ensures.keeps (c.abandon_all.ensures.gives c.make_rounds-fronted.new.served (record {
      counts = g.B.Watched.counts c.make_rounds-fronted.new.backend;
      happened = g.B.Watched.happened c.make_rounds-fronted.new.backend;
    })) in
    served-to g.W.World g.S.Sitting g.A.In.EdgeSource g.A.Out.EdgeSink c.args.route.now c.make_rounds-fronted.result start before c.make_rounds-fronted.new.places then next
    (g.A.EdgeAccept.left c.make_rounds-fronted.new.accept) c.make_rounds-fronted.ensures.over c.abandon_all.ensures.left all

pub returns-clause-seats : goal.returns-clause-seats
returns-clause-seats g c =
    let start = front_view g.A.EdgeAccept c.args.served.now c.args.accept.now in
    let before = outside_of g.D.Door g.B.Watched c.args.door.now c.args.backend.now in
    let now = front_view g.A.EdgeAccept c.make_rounds-fronted.new.served c.make_rounds-fronted.new.accept in
    let here = outside_of g.D.Door g.B.Watched c.make_rounds-fronted.new.door c.make_rounds-fronted.new.backend in
    let then = front_view g.A.EdgeAccept c.make_rounds-fronted.new.served c.abandon_all.new.accept in
    let next = outside_of g.D.Door g.B.Watched c.abandon_all.new.door c.make_rounds-fronted.new.backend in
    let all = all-gone g.W.World g.S.Sitting g.A.In.EdgeSource g.A.Out.EdgeSink c.args.route.now c.args.places.now c.make_rounds-fronted.new.places c.requires.none start now then before here next
    c.make_rounds-fronted.ensures.keeps (c.abandon_all.ensures.gives c.make_rounds-fronted.new.served (record {
      counts = g.B.Watched.counts c.make_rounds-fronted.new.backend;
      happened = g.B.Watched.happened c.make_rounds-fronted.new.backend;
    })) in
    seats-to g.W.World g.S.Sitting g.A.In.EdgeSource g.A.Out.EdgeSink c.args.route.now start before c.make_rounds-fronted.new.places then next all

pub returns-clause-most : goal.returns-clause-most
returns-clause-most g c =
    let start = front_view g.A.EdgeAccept c.args.served.now c.args.accept.now in
    let before = outside_of g.D.Door g.B.Watched c.args.door.now c.args.backend.now in
    let now = front_view g.A.EdgeAccept c.make_rounds-fronted.new.served c.make_rounds-fronted.new.accept in
    let here = outside_of g.D.Door g.B.Watched c.make_rounds-fronted.new.door c.make_rounds-fronted.new.backend in
    let then = front_view g.A.EdgeAccept c.make_rounds-fronted.new.served c.abandon_all.new.accept in
    let next = outside_of g.D.Door g.B.Watched c.abandon_all.new.door c.make_rounds-fronted.new.backend in
    let all = all-gone g.W.World g.S.Sitting g.A.In.EdgeSource g.A.Out.EdgeSink c.args.route.now c.args.places.now c.make_rounds-fronted.new.places c.requires.none start now then before here next
    c.make_rounds-fronted.ensures.keeps (c.abandon_all.ensures.gives c.make_rounds-fronted.new.served (record {
      counts = g.B.Watched.counts c.make_rounds-fronted.new.backend;
      happened = g.B.Watched.happened c.make_rounds-fronted.new.backend;
    })) in
    most-to g.W.World g.S.Sitting g.A.In.EdgeSource g.A.Out.EdgeSink c.args.route.now start before c.make_rounds-fronted.new.places then next all

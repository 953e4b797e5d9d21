use Rattle.event_front.specs.conn_served.front_conn.steps.Drives.{outside_of}
use Rattle.event_loop.specs.Fronts.{front_view}
use Rattle.event_loop.proofs.FrontLemmas.{serves-then}
use Rattle.event_loop.proofs.ServesLemmas.{ended-open}
use Rattle.event_loop.proofs.places.serve_at.Goals as goal

pub end_at-requires : goal.end_at-requires
end_at-requires g c =
    let ended = c.poll_at.ensures.ended c.if-poll_at.true in record {
      ended = ended;
      out = c.requires.out (c.poll_at.ensures.open (ended-open c.poll_at.new.place ended));
    }

pub returns-then-poll_at-clause-keeps : goal.returns-then-poll_at-clause-keeps
returns-then-poll_at-clause-keeps g c =
    serves-then g.W.World g.S.Sitting g.A.In.EdgeSource g.A.Out.EdgeSink c.args.route.now c.args.place.now c.poll_at.new.place c.end_at.new.place
    (front_view g.A.EdgeAccept c.args.served.now c.args.accept.now) (front_view g.A.EdgeAccept c.args.served.now c.args.accept.now)
    (front_view g.A.EdgeAccept c.end_at.new.served c.end_at.new.accept)
    (outside_of g.D.Door g.B.Watched c.args.door.now c.args.backend.now) (outside_of g.D.Door g.B.Watched c.poll_at.new.door c.poll_at.new.backend)
    (outside_of g.D.Door g.B.Watched c.end_at.new.door c.poll_at.new.backend)
    (c.poll_at.ensures.keeps (front_view g.A.EdgeAccept c.args.served.now c.args.accept.now))
    (c.end_at.ensures.keeps (record {
      counts = g.B.Watched.counts c.poll_at.new.backend;
      happened = g.B.Watched.happened c.poll_at.new.backend;
    }))

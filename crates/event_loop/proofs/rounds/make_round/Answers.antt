use Rattle.event_front.specs.conn_served.front_conn.steps.Drives.{outside_of}
use Rattle.event_loop.specs.Fronts.{front_view}
use Rattle.event_loop.proofs.FrontLemmas.{comes-on, goes-then, le-same, le-then}
use Rattle.event_loop.proofs.rounds.make_round.Goals as goal

pub returns-then-is_err-clause-keeps : goal.returns-then-is_err-clause-keeps
returns-then-is_err-clause-keeps g c = c.serve_all.ensures.keeps

pub returns-then-is_err-clause-comes : goal.returns-then-is_err-clause-comes
returns-then-is_err-clause-comes g c = λ from more h.
    comes-on c.args.coming.now from (g.A.EdgeAccept.faults c.args.accept.now) (g.A.EdgeAccept.left c.args.accept.now) h
    (g.A.EdgeAccept.faults c.serve_all.new.accept) (le-same (g.A.EdgeAccept.faults c.args.accept.now) (g.A.EdgeAccept.faults c.serve_all.new.accept)
    c.serve_all.ensures.faults) (g.A.EdgeAccept.left c.serve_all.new.accept) c.serve_all.ensures.left

pub returns-then-is_err-clause-ends : goal.returns-then-is_err-clause-ends
returns-then-is_err-clause-ends g c = λ from h.
    (tt, tt)

pub returns-then-is_err-clause-faults : goal.returns-then-is_err-clause-faults
returns-then-is_err-clause-faults g c =
    le-same (g.A.EdgeAccept.faults c.args.accept.now) (g.A.EdgeAccept.faults c.serve_all.new.accept) c.serve_all.ensures.faults

pub returns-clause-keeps : goal.returns-clause-keeps
returns-clause-keeps g c =
    goes-then g.W.World g.S.Sitting g.A.In.EdgeSource g.A.Out.EdgeSink c.args.route.now c.args.places.now c.serve_all.new.places c.come_on.new.places
    (front_view g.A.EdgeAccept c.args.served.now c.args.accept.now) (front_view g.A.EdgeAccept c.serve_all.new.served c.serve_all.new.accept)
    (front_view g.A.EdgeAccept c.serve_all.new.served c.come_on.new.accept)
    (outside_of g.D.Door g.B.Watched c.args.door.now c.args.backend.now) (outside_of g.D.Door g.B.Watched c.serve_all.new.door c.serve_all.new.backend)
    (outside_of g.D.Door g.B.Watched c.serve_all.new.door c.serve_all.new.backend) c.serve_all.ensures.keeps
    (c.come_on.ensures.keeps c.args.route.now c.serve_all.new.served (outside_of g.D.Door g.B.Watched c.serve_all.new.door c.serve_all.new.backend))

pub returns-clause-comes : goal.returns-clause-comes
returns-clause-comes g c = λ from more h.
    c.come_on.ensures.comes from
    (le-then from (g.A.EdgeAccept.faults c.args.accept.now) (g.A.EdgeAccept.faults c.serve_all.new.accept) more
    (le-same (g.A.EdgeAccept.faults c.args.accept.now) (g.A.EdgeAccept.faults c.serve_all.new.accept) c.serve_all.ensures.faults))
    (comes-on c.args.coming.now from (g.A.EdgeAccept.faults c.args.accept.now) (g.A.EdgeAccept.left c.args.accept.now) h
    (g.A.EdgeAccept.faults c.serve_all.new.accept) (le-same (g.A.EdgeAccept.faults c.args.accept.now) (g.A.EdgeAccept.faults c.serve_all.new.accept)
    c.serve_all.ensures.faults) (g.A.EdgeAccept.left c.serve_all.new.accept) c.serve_all.ensures.left)

pub returns-clause-ends : goal.returns-clause-ends
returns-clause-ends g c = λ from h.
    c.end_or_wait.ensures.ends from (g.A.EdgeAccept.faults c.come_on.new.accept) (g.A.EdgeAccept.left c.come_on.new.accept) h

pub returns-clause-faults : goal.returns-clause-faults
returns-clause-faults g c =
    le-then (g.A.EdgeAccept.faults c.args.accept.now) (g.A.EdgeAccept.faults c.serve_all.new.accept) (g.A.EdgeAccept.faults c.come_on.new.accept)
    (le-same (g.A.EdgeAccept.faults c.args.accept.now) (g.A.EdgeAccept.faults c.serve_all.new.accept) c.serve_all.ensures.faults)
    c.come_on.ensures.faults

pub returns-clause-polls : goal.returns-clause-polls
returns-clause-polls g c = c.end_or_wait.ensures.polls

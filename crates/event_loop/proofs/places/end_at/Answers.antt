use Rattle.std.proofs.Common.{refl}
use Rattle.event_loop.specs.Fronts.{front_view}
use Rattle.event_loop.specs.steps.Places.{outside_with}
use Rattle.event_loop.proofs.FrontLemmas.{serves-then}
use Rattle.event_loop.proofs.ServesLemmas.{serves-same}
use Rattle.event_loop.proofs.places.end_at.Goals as goal

pub returns-in_err-make_room-clause-keeps : goal.returns-in_err-make_room-clause-keeps
returns-in_err-make_room-clause-keeps g c = λ backend.
    serves-same g.W.World g.S.Sitting g.A.In.EdgeSource g.A.Out.EdgeSink c.args.route.now c.args.place.now
    (front_view g.A.EdgeAccept c.args.served.now c.args.accept.now) (front_view g.A.EdgeAccept c.make_room.new.self c.args.accept.now)
    (outside_with g.D.Door c.args.door.now backend) c.make_room.ensures.same refl refl refl

pub returns-clause-keeps : goal.returns-clause-keeps
returns-clause-keeps g c = λ backend.
    serves-then g.W.World g.S.Sitting g.A.In.EdgeSource g.A.Out.EdgeSink c.args.route.now c.args.place.now c.args.place.now c.hand_back.new.place
    (front_view g.A.EdgeAccept c.args.served.now c.args.accept.now) (front_view g.A.EdgeAccept c.make_room.new.self c.args.accept.now)
    (front_view g.A.EdgeAccept c.hand_back.new.served c.hand_back.new.accept)
    (outside_with g.D.Door c.args.door.now backend) (outside_with g.D.Door c.args.door.now backend)
    (outside_with g.D.Door c.hand_back.new.door backend)
    (serves-same g.W.World g.S.Sitting g.A.In.EdgeSource g.A.Out.EdgeSink c.args.route.now c.args.place.now
    (front_view g.A.EdgeAccept c.args.served.now c.args.accept.now) (front_view g.A.EdgeAccept c.make_room.new.self c.args.accept.now)
    (outside_with g.D.Door c.args.door.now backend) c.make_room.ensures.same refl refl refl)
    (c.hand_back.ensures.keeps backend)

use Rattle.std.proofs.Common.{None, Some}
use Rattle.event_loop.specs.Fronts.{front_view}
use Rattle.event_loop.proofs.FrontLemmas.{serves-as, serves-nothing}
use Rattle.event_loop.proofs.ServesLemmas.{none-there}
use Rattle.event_loop.proofs.places.accept_at.Goals as goal

pub returns-then-is_some-clause-keeps : goal.returns-then-is_some-clause-keeps
returns-then-is_some-clause-keeps g c = λ route served here.
    serves-nothing g.W.World g.S.Sitting g.A.In.EdgeSource g.A.Out.EdgeSink route c.args.place.now (front_view g.A.EdgeAccept served c.args.accept.now) here

pub returns-in-Ok-clause-keeps : goal.returns-in-Ok-clause-keeps
returns-in-Ok-clause-keeps g c = λ route served here.
    serves-as g.W.World g.S.Sitting g.A.In.EdgeSource g.A.Out.EdgeSink route None (Some c.in-Ok.task) c.args.place.now c.put.new.place
    (front_view g.A.EdgeAccept served c.args.accept.now) (front_view g.A.EdgeAccept served c.accept_one.new.accept) here here
    (none-there c.args.place.now c.is_some.result c.is_some.ensures c.if-is_some.false) c.put.ensures
    (c.in-Ok.ensures.keeps route served here)

pub returns-in-Err-clause-keeps : goal.returns-in-Err-clause-keeps
returns-in-Err-clause-keeps g c = λ route served here.
    let none = none-there c.args.place.now c.is_some.result c.is_some.ensures c.if-is_some.false in
    serves-as g.W.World g.S.Sitting g.A.In.EdgeSource g.A.Out.EdgeSink route None None c.args.place.now c.args.place.now
    (front_view g.A.EdgeAccept served c.args.accept.now) (front_view g.A.EdgeAccept served c.accept_one.new.accept) here here
    none none (c.in-Err.ensures.keeps route served here)

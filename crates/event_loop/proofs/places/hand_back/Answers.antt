use Rattle.std.proofs.Common.{◌∙◌, Option, refl, subst, sym}
use Rattle.event_front.specs.Tasks.{TaskView}
use Rattle.event_loop.specs.Fronts.{front_view}
use Rattle.event_loop.specs.steps.Places.{HasEndedAt, ServesOn, outside_with}
use Rattle.event_loop.proofs.ServesLemmas.{closed-as, ended-some, serves-handed}
use Rattle.event_loop.proofs.places.hand_back.Goals as goal

pub into_parts-came-requires : goal.into_parts-came-requires
into_parts-came-requires g c = record {
  ended = ended-some c.args.place.now c.in-Some.task (sym c.take.ensures.value ∙ c.in-Some.is) c.requires.ended;
}

pub returns-in-Some-clause-keeps : goal.returns-in-Some-clause-keeps
returns-in-Some-clause-keeps g c = λ backend.
    subst (λ (p : Option (TaskView g.row.S.Denot g.row.A-In.Denot g.row.A-Out.Denot)). ServesOn g.W.World g.S.Sitting g.A.In.EdgeSource g.A.Out.EdgeSink
    c.args.route.now c.args.place.now p (front_view g.A.EdgeAccept c.args.served.now c.args.accept.now)
    (front_view g.A.EdgeAccept c.push.new.self c.close.new.self) (outside_with g.D.Door c.args.door.now backend)
    (outside_with g.D.Door c.into_parts-came.new.door backend)) (sym c.take.ensures.after)
    (serves-handed g.W.World g.S.Sitting g.A.In.EdgeSource g.A.Out.EdgeSink c.args.route.now c.marks_are_met.ensures
    c.connections_give_back.ensures c.args.place.now c.in-Some.task c.into_parts-came.result.0
    (front_view g.A.EdgeAccept c.args.served.now c.args.accept.now) (front_view g.A.EdgeAccept c.push.new.self c.close.new.self)
    (outside_with g.D.Door c.args.door.now backend) (outside_with g.D.Door c.into_parts-came.new.door backend)
    (sym c.take.ensures.value ∙ c.in-Some.is) c.into_parts-came.ensures.end c.into_parts-came.ensures.marks c.push.ensures c.close.ensures.left
    (closed-as (g.A.EdgeAccept.closed c.args.accept.now) (g.A.EdgeAccept.closed c.close.new.self) c.into_parts-came.result.1 c.in-Some.task.input
    c.into_parts-came.result.2 c.in-Some.task.output c.into_parts-came.ensures.input c.into_parts-came.ensures.output c.close.ensures.closed)
    c.close.ensures.out c.into_parts-came.ensures.counts refl c.into_parts-came.ensures.pool)

pub returns-in_default-clause-keeps : goal.returns-in_default-clause-keeps
returns-in_default-clause-keeps g c =
    absurd (subst (λ (h : Option (TaskView g.row.S.Denot g.row.A-In.Denot g.row.A-Out.Denot)). HasEndedAt h) (sym c.take.ensures.value ∙ c.in_default.is) c.requires.ended)

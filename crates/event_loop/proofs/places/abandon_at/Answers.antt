use Rattle.std.proofs.Common.{◌∙◌, refl, sym}
use Rattle.event_loop.specs.Fronts.{front_view}
use Rattle.event_loop.specs.steps.Places.{outside_with}
use Rattle.event_loop.proofs.ServesLemmas.{closed-as, gives-abandoned, gives-nothing, is-some}
use Rattle.event_loop.proofs.places.abandon_at.Goals as goal

pub close-requires : goal.close-requires
close-requires g c = c.requires.out (is-some c.args.place.now c.in-Some.task (sym c.take.ensures.value ∙ c.in-Some.is))

pub returns-in-Some-clause-gives : goal.returns-in-Some-clause-gives
returns-in-Some-clause-gives g c = λ served backend.
    gives-abandoned g.W.World g.S.Sitting g.A.In.EdgeSource g.A.Out.EdgeSink c.args.route.now
    c.connections_give_back.ensures c.args.place.now c.in-Some.task
    (front_view g.A.EdgeAccept served c.args.accept.now) (front_view g.A.EdgeAccept served c.close.new.self)
    (outside_with g.D.Door c.args.door.now backend) (outside_with g.D.Door c.abandon-input.new.door backend)
    (sym c.take.ensures.value ∙ c.in-Some.is) refl c.close.ensures.left (closed-as (g.A.EdgeAccept.closed c.args.accept.now) (g.A.EdgeAccept.closed c.close.new.self) c.abandon-input.result.0 c.in-Some.task.input
    c.abandon-input.result.1 c.in-Some.task.output c.abandon-input.ensures.input c.abandon-input.ensures.output c.close.ensures.closed) c.close.ensures.out c.abandon-input.ensures.counts refl c.abandon-input.ensures.pool

pub returns-in_default-clause-gives : goal.returns-in_default-clause-gives
returns-in_default-clause-gives g c = λ served backend.
    gives-nothing g.W.World g.S.Sitting g.A.In.EdgeSource g.A.Out.EdgeSink c.args.route.now c.args.place.now
    (front_view g.A.EdgeAccept served c.args.accept.now) (outside_with g.D.Door c.args.door.now backend) (sym c.take.ensures.value ∙ c.in_default.is)

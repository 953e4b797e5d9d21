use Rattle.std.proofs.Common.{◌∙◌, ◌<◌, arith, get_or, length, refl}
use Rattle.event_loop.specs.Fronts.{front_view}
use Rattle.event_loop.specs.steps.Places.{outside_with}
use Rattle.event_loop.proofs.FrontLemmas.{gives-all, gives-first, gives-next, gives-out, place-read}
use Rattle.event_loop.proofs.rounds.abandon_all.Goals as goal

pub loop-place-init : goal.loop-place-init
loop-place-init g c = record {
  gives = λ served backend. gives-first g.W.World g.S.Sitting g.A.In.EdgeSource g.A.Out.EdgeSink c.args.route.now c.args.places.now
      (front_view g.A.EdgeAccept served c.args.accept.now) (outside_with g.D.Door c.args.door.now backend);
  left = refl;
  faults = refl;
}

pub abandon_at-requires : goal.abandon_at-requires
abandon_at-requires g c =
    let place = c.loop-place.place in
    let here = get_or c.loop-place.places place c.index-places-place.result in
    let within : place < length c.loop-place.places = omega (arith, c.loop-place-test.true, c.loop-place.auto.places) in
    let is = place-read c.loop-place.places place c.index-places-place.result within in
    let served = c.requires.front.0 in
    let backend = c.requires.front.1 in record {
      out = gives-out g.W.World g.S.Sitting g.A.In.EdgeSource g.A.Out.EdgeSink c.args.route.now c.args.places.now place c.loop-place.places
          (front_view g.A.EdgeAccept served c.args.accept.now) (front_view g.A.EdgeAccept served c.loop-place.accept)
          (outside_with g.D.Door c.args.door.now backend) (outside_with g.D.Door c.loop-place.door backend) c.requires.front.2
          (c.loop-place.invariant.gives served backend) here within is;
    }

pub loop-place-preserved : goal.loop-place-preserved
loop-place-preserved g c =
    let place = c.loop-place.place in
    let here = get_or c.loop-place.places place c.index-places-place.result in
    let within : place < length c.loop-place.places = omega (arith, c.loop-place-test.true, c.loop-place.auto.places) in
    let is = place-read c.loop-place.places place c.index-places-place.result within in record {
      gives = λ served backend. gives-next g.W.World g.S.Sitting g.A.In.EdgeSource g.A.Out.EdgeSink c.args.route.now c.args.places.now place c.loop-place.places here c.abandon_at.new.place
          (front_view g.A.EdgeAccept served c.args.accept.now) (front_view g.A.EdgeAccept served c.loop-place.accept) (front_view g.A.EdgeAccept served c.abandon_at.new.accept)
          (outside_with g.D.Door c.args.door.now backend) (outside_with g.D.Door c.loop-place.door backend) (outside_with g.D.Door c.abandon_at.new.door backend)
          within is c.abandon_at.ensures.none (c.loop-place.invariant.gives served backend) (c.abandon_at.ensures.gives served backend);
      left = c.abandon_at.ensures.left ∙ c.loop-place.invariant.left;
      faults = c.abandon_at.ensures.faults ∙ c.loop-place.invariant.faults;
    }

pub returns-clause-gives : goal.returns-clause-gives
returns-clause-gives g c = λ served backend.
    gives-all g.W.World g.S.Sitting g.A.In.EdgeSource g.A.Out.EdgeSink c.args.route.now c.args.places.now c.loop-place.place c.loop-place.places
    (front_view g.A.EdgeAccept served c.args.accept.now) (front_view g.A.EdgeAccept served c.loop-place.accept)
    (outside_with g.D.Door c.args.door.now backend) (outside_with g.D.Door c.loop-place.door backend)
    (omega (arith, c.loop-place-test.false, c.loop-place.auto.place-end)) (c.loop-place.invariant.gives served backend)

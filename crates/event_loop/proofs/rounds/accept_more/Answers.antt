use Rattle.std.proofs.Common.{◌<◌, arith, get_or, length}
use Rattle.event_loop.specs.Fronts.{front_view}
use Rattle.event_loop.proofs.FrontLemmas.{comes-since, goes-at, goes-nothing, le-then, place-read}
use Rattle.event_loop.proofs.rounds.accept_more.Goals as goal

pub loop-place-init : goal.loop-place-init
loop-place-init g c = record {
  keeps = λ route served here. goes-nothing g.W.World g.S.Sitting g.A.In.EdgeSource g.A.Out.EdgeSink route c.args.places.now (front_view g.A.EdgeAccept served c.args.accept.now) here;
  faults = omega arith;
}

pub loop-place-preserved : goal.loop-place-preserved
loop-place-preserved g c =
    let place = c.loop-place.place in
    let within : place < length c.loop-place.places = omega (arith, c.loop-place-test.true, c.loop-place.auto.places) in
    let is = place-read c.loop-place.places place c.index-places-place.result within in
    record {
      keeps = λ route served here. goes-at g.W.World g.S.Sitting g.A.In.EdgeSource g.A.Out.EdgeSink route c.args.places.now c.loop-place.places place
          (get_or c.loop-place.places place c.index-places-place.result) c.accept_at.new.place
          (front_view g.A.EdgeAccept served c.args.accept.now) (front_view g.A.EdgeAccept served c.loop-place.accept) (front_view g.A.EdgeAccept served c.accept_at.new.accept) here here here
          within is (c.loop-place.invariant.keeps route served here) (c.accept_at.ensures.keeps route served here);
      faults = le-then (g.A.EdgeAccept.faults c.args.accept.now) (g.A.EdgeAccept.faults c.loop-place.accept)
          (g.A.EdgeAccept.faults c.accept_at.new.accept) c.loop-place.invariant.faults c.accept_at.ensures.faults;
    }

pub returns-in-Some-clause-keeps : goal.returns-in-Some-clause-keeps
returns-in-Some-clause-keeps g c = λ route served here.
    let place = c.loop-place.place in
    let within : place < length c.loop-place.places = omega (arith, c.loop-place-test.true, c.loop-place.auto.places) in
    let is = place-read c.loop-place.places place c.index-places-place.result within in
    goes-at g.W.World g.S.Sitting g.A.In.EdgeSource g.A.Out.EdgeSink route c.args.places.now c.loop-place.places place
    (get_or c.loop-place.places place c.index-places-place.result) c.accept_at.new.place
    (front_view g.A.EdgeAccept served c.args.accept.now) (front_view g.A.EdgeAccept served c.loop-place.accept) (front_view g.A.EdgeAccept served c.accept_at.new.accept) here here here
    within is (c.loop-place.invariant.keeps route served here) (c.in-Some.ensures.keeps route served here)

pub returns-in-Some-clause-comes : goal.returns-in-Some-clause-comes
returns-in-Some-clause-comes g c =
    comes-since c.in-Some.coming (g.A.EdgeAccept.faults c.args.accept.now) (g.A.EdgeAccept.faults c.loop-place.accept)
    (g.A.EdgeAccept.faults c.accept_at.new.accept) (g.A.EdgeAccept.left c.accept_at.new.accept)
    c.loop-place.invariant.faults c.in-Some.ensures.comes

pub returns-in-Some-clause-faults : goal.returns-in-Some-clause-faults
returns-in-Some-clause-faults g c =
    le-then (g.A.EdgeAccept.faults c.args.accept.now) (g.A.EdgeAccept.faults c.loop-place.accept) (g.A.EdgeAccept.faults c.accept_at.new.accept)
    c.loop-place.invariant.faults c.in-Some.ensures.faults

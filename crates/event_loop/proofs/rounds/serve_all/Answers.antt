use Rattle.std.proofs.Common.{◌∙◌, ◌<◌, arith, get_or, length, refl}
use Rattle.event_front.specs.conn_served.front_conn.steps.Drives.{outside_of}
use Rattle.event_loop.specs.Fronts.{front_view}
use Rattle.event_loop.proofs.FrontLemmas.{front-of, front-out, goes-at, goes-nothing, place-read, some-on}
use Rattle.event_loop.proofs.rounds.serve_all.Goals as goal

pub loop-place-init : goal.loop-place-init
loop-place-init g c = record {
  keeps = goes-nothing g.W.World g.S.Sitting g.A.In.EdgeSource g.A.Out.EdgeSink c.args.route.now c.args.places.now (front_view g.A.EdgeAccept c.args.served.now c.args.accept.now)
      (outside_of g.D.Door g.B.Watched c.args.door.now c.args.backend.now);
  left = refl;
  faults = refl;
}

pub serve_at-requires : goal.serve_at-requires
serve_at-requires g c =
    let place = c.loop-place.place in
    let here = get_or c.loop-place.places place c.index-places-place.result in
    let within : place < length c.loop-place.places = omega (arith, c.loop-place-test.true, c.loop-place.auto.places) in
    let is = place-read c.loop-place.places place c.index-places-place.result within in
    let now = front_view g.A.EdgeAccept c.loop-place.served c.loop-place.accept in
    let outside = outside_of g.D.Door g.B.Watched c.loop-place.door c.loop-place.backend in
    let front = some-on g.W.World g.S.Sitting g.A.In.EdgeSource g.A.Out.EdgeSink c.args.route.now c.args.places.now c.loop-place.places
    (front_view g.A.EdgeAccept c.args.served.now c.args.accept.now) now (outside_of g.D.Door g.B.Watched c.args.door.now c.args.backend.now) outside
    c.loop-place.invariant.keeps c.requires.front in record {
      of = front-of g.W.World g.S.Sitting g.A.In.EdgeSource g.A.Out.EdgeSink c.args.route.now c.loop-place.places now outside front place here is;
      out = front-out g.W.World g.S.Sitting g.A.In.EdgeSource g.A.Out.EdgeSink c.args.route.now c.loop-place.places now outside front place here within is;
    }

pub loop-place-preserved : goal.loop-place-preserved
loop-place-preserved g c =
    let place = c.loop-place.place in
    let here = get_or c.loop-place.places place c.index-places-place.result in
    let within : place < length c.loop-place.places = omega (arith, c.loop-place-test.true, c.loop-place.auto.places) in
    let is = place-read c.loop-place.places place c.index-places-place.result within in
    record {
      keeps = goes-at g.W.World g.S.Sitting g.A.In.EdgeSource g.A.Out.EdgeSink c.args.route.now c.args.places.now c.loop-place.places place here c.serve_at.new.place
          (front_view g.A.EdgeAccept c.args.served.now c.args.accept.now) (front_view g.A.EdgeAccept c.loop-place.served c.loop-place.accept)
          (front_view g.A.EdgeAccept c.serve_at.new.served c.serve_at.new.accept) (outside_of g.D.Door g.B.Watched c.args.door.now c.args.backend.now)
          (outside_of g.D.Door g.B.Watched c.loop-place.door c.loop-place.backend) (outside_of g.D.Door g.B.Watched c.serve_at.new.door c.serve_at.new.backend)
          within is c.loop-place.invariant.keeps c.serve_at.ensures.keeps;
      left = c.serve_at.ensures.left ∙ c.loop-place.invariant.left;
      faults = c.serve_at.ensures.faults ∙ c.loop-place.invariant.faults;
    }

pub returns-in_err-serve_at-clause-keeps : goal.returns-in_err-serve_at-clause-keeps
returns-in_err-serve_at-clause-keeps g c =
    let place = c.loop-place.place in
    let here = get_or c.loop-place.places place c.index-places-place.result in
    let within : place < length c.loop-place.places = omega (arith, c.loop-place-test.true, c.loop-place.auto.places) in
    let is = place-read c.loop-place.places place c.index-places-place.result within in
    goes-at g.W.World g.S.Sitting g.A.In.EdgeSource g.A.Out.EdgeSink c.args.route.now c.args.places.now c.loop-place.places place here c.serve_at.new.place
    (front_view g.A.EdgeAccept c.args.served.now c.args.accept.now) (front_view g.A.EdgeAccept c.loop-place.served c.loop-place.accept)
    (front_view g.A.EdgeAccept c.serve_at.new.served c.serve_at.new.accept) (outside_of g.D.Door g.B.Watched c.args.door.now c.args.backend.now)
    (outside_of g.D.Door g.B.Watched c.loop-place.door c.loop-place.backend) (outside_of g.D.Door g.B.Watched c.serve_at.new.door c.serve_at.new.backend)
    within is c.loop-place.invariant.keeps c.serve_at.ensures.keeps

pub returns-in_err-serve_at-clause-left : goal.returns-in_err-serve_at-clause-left
returns-in_err-serve_at-clause-left g c = c.serve_at.ensures.left ∙ c.loop-place.invariant.left

pub returns-in_err-serve_at-clause-faults : goal.returns-in_err-serve_at-clause-faults
returns-in_err-serve_at-clause-faults g c = c.serve_at.ensures.faults ∙ c.loop-place.invariant.faults

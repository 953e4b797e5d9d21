use Rattle.std.proofs.Common.{arith}
use Rattle.event_front.specs.conn_served.front_conn.steps.Drives.{outside_of}
use Rattle.event_loop.specs.Fronts.{front_view}
use Rattle.event_loop.proofs.FrontLemmas.{ends-since, goes-nothing, goes-then, le-same, le-then, some-on}
use Rattle.event_loop.proofs.rounds.make_rounds.Goals as goal

pub loop-round-init : goal.loop-round-init
loop-round-init g c = record {
  keeps = goes-nothing g.W.World g.S.Sitting g.A.In.EdgeSource g.A.Out.EdgeSink c.args.route.now c.args.places.now (front_view g.A.EdgeAccept c.args.served.now c.args.accept.now)
      (outside_of g.D.Door g.B.Watched c.args.door.now c.args.backend.now);
  comes = tt;
  faults = omega arith;
  polls = omega arith;
}

pub make_round-requires : goal.make_round-requires
make_round-requires g c = record {
  front = some-on g.W.World g.S.Sitting g.A.In.EdgeSource g.A.Out.EdgeSink c.args.route.now c.args.places.now c.loop-round.places
      (front_view g.A.EdgeAccept c.args.served.now c.args.accept.now) (front_view g.A.EdgeAccept c.loop-round.served c.loop-round.accept)
      (outside_of g.D.Door g.B.Watched c.args.door.now c.args.backend.now) (outside_of g.D.Door g.B.Watched c.loop-round.door c.loop-round.backend)
      c.loop-round.invariant.keeps c.requires.front;
}

pub loop-round-preserved : goal.loop-round-preserved
loop-round-preserved g c = record {
  keeps = goes-then g.W.World g.S.Sitting g.A.In.EdgeSource g.A.Out.EdgeSink c.args.route.now c.args.places.now c.loop-round.places c.make_round.new.places
      (front_view g.A.EdgeAccept c.args.served.now c.args.accept.now) (front_view g.A.EdgeAccept c.loop-round.served c.loop-round.accept)
      (front_view g.A.EdgeAccept c.make_round.new.served c.make_round.new.accept)
      (outside_of g.D.Door g.B.Watched c.args.door.now c.args.backend.now) (outside_of g.D.Door g.B.Watched c.loop-round.door c.loop-round.backend)
      (outside_of g.D.Door g.B.Watched c.make_round.new.door c.make_round.new.backend) c.loop-round.invariant.keeps c.make_round.ensures.keeps;
  comes = c.make_round.ensures.comes (g.A.EdgeAccept.faults c.args.accept.now) c.loop-round.invariant.faults c.loop-round.invariant.comes;
  faults = le-then (g.A.EdgeAccept.faults c.args.accept.now) (g.A.EdgeAccept.faults c.loop-round.accept) (g.A.EdgeAccept.faults c.make_round.new.accept)
      c.loop-round.invariant.faults c.make_round.ensures.faults;
  polls = le-then (g.P.Poller.faults c.args.poller.now) (g.P.Poller.faults c.targets_are_due-targets_are_due.new.self)
      (g.P.Poller.faults c.make_round.new.poller) (le-then (g.P.Poller.faults c.args.poller.now) (g.P.Poller.faults c.loop-round.poller) (g.P.Poller.faults c.targets_are_due-targets_are_due.new.self)
      c.loop-round.invariant.polls
      (le-same (g.P.Poller.faults c.loop-round.poller) (g.P.Poller.faults c.targets_are_due-targets_are_due.new.self)
      c.targets_are_due-targets_are_due.ensures.faults)) c.make_round.ensures.polls;
}

pub returns-in-Some-clause-keeps : goal.returns-in-Some-clause-keeps
returns-in-Some-clause-keeps g c =
    goes-then g.W.World g.S.Sitting g.A.In.EdgeSource g.A.Out.EdgeSink c.args.route.now c.args.places.now c.loop-round.places c.make_round.new.places
    (front_view g.A.EdgeAccept c.args.served.now c.args.accept.now) (front_view g.A.EdgeAccept c.loop-round.served c.loop-round.accept)
    (front_view g.A.EdgeAccept c.make_round.new.served c.make_round.new.accept)
    (outside_of g.D.Door g.B.Watched c.args.door.now c.args.backend.now) (outside_of g.D.Door g.B.Watched c.loop-round.door c.loop-round.backend)
    (outside_of g.D.Door g.B.Watched c.make_round.new.door c.make_round.new.backend) c.loop-round.invariant.keeps c.in-Some.ensures.keeps

pub returns-in-Some-clause-over : goal.returns-in-Some-clause-over
returns-in-Some-clause-over g c =
    let from = g.A.EdgeAccept.faults c.args.accept.now in
    (c.in-Some.ensures.ends from (c.in-Some.ensures.comes from c.loop-round.invariant.faults c.loop-round.invariant.comes)).0

pub returns-in-Some-clause-cause : goal.returns-in-Some-clause-cause
returns-in-Some-clause-cause g c =
    let from = g.A.EdgeAccept.faults c.args.accept.now in
    (ends-since c.in-Some.how c.make_round.new.places from (g.A.EdgeAccept.faults c.make_round.new.accept)
    (g.P.Poller.faults c.args.poller.now) (g.P.Poller.faults c.targets_are_due-targets_are_due.new.self) (g.P.Poller.faults c.make_round.new.poller)
    (g.A.EdgeAccept.left c.make_round.new.accept) (le-then (g.P.Poller.faults c.args.poller.now) (g.P.Poller.faults c.loop-round.poller) (g.P.Poller.faults c.targets_are_due-targets_are_due.new.self)
    c.loop-round.invariant.polls
    (le-same (g.P.Poller.faults c.loop-round.poller) (g.P.Poller.faults c.targets_are_due-targets_are_due.new.self)
    c.targets_are_due-targets_are_due.ensures.faults))
    (c.in-Some.ensures.ends from (c.in-Some.ensures.comes from c.loop-round.invariant.faults c.loop-round.invariant.comes))).1

pub returns-clause-keeps : goal.returns-clause-keeps
returns-clause-keeps g c = c.loop-round.invariant.keeps

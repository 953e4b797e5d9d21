use Rattle.std.proofs.lemmas.Result.{on_ok_weaker}
use Rattle.replay.specs.Trace.{outside_of}
use Rattle.replay.proofs.PlayLemmas.{feeds_open, not_a_client, plays_end, plays_feed, plays_run, plays_step}
use Rattle.replay.proofs.playing.play_for.Goals as goal

pub feed-requires : goal.feed-requires
feed-requires g c = feeds_open c.args.event.now _ c.in-Feed.octets c.args.client.now c.in-Feed.is c.requires.takes

pub returns-in-Feed-clause-played : goal.returns-in-Feed-clause-played
returns-in-Feed-clause-played g c =
    on_ok_weaker c.feed.result
    (plays_feed g.W.World g.B.Session.Sitting g.B.Watched.exact c.args.route.now c.args.event.now c.args.now _ c.in-Feed.octets
    c.as_slice.result.now c.args.client.now c.feed.new.self (outside_of g.D.Door g.B.Watched c.args.door.now c.args.backend.now)
    c.in-Feed.is c.as_slice.ensures) c.feed.ensures

pub returns-in-End-clause-played : goal.returns-in-End-clause-played
returns-in-End-clause-played g c =
    plays_end g.W.World g.B.Session.Sitting g.B.Watched.exact c.args.route.now c.args.event.now c.args.now _
    c.args.client.now c.end_input.new.self (outside_of g.D.Door g.B.Watched c.args.door.now c.args.backend.now) c.in-End.is c.end_input.ensures

pub returns-in_ok-step-in-Step-clause-played : goal.returns-in_ok-step-in-Step-clause-played
returns-in_ok-step-in-Step-clause-played g c =
    plays_step g.W.World g.B.Session.Sitting g.B.Watched.exact c.args.route.now c.args.event.now c.args.now _ c.in_ok-step-in-Step.field-0
    c.args.client.now c.step.new.self (outside_of g.D.Door g.B.Watched c.args.door.now c.args.backend.now)
    (outside_of g.D.Door g.B.Watched c.step.new.door c.step.new.backend) c.in-Step.is c.in_ok-step-in-Step.ensures.steps

pub returns-in-Run-clause-played : goal.returns-in-Run-clause-played
returns-in-Run-clause-played g c =
    on_ok_weaker c.run.result
    (plays_run g.W.World g.B.Session.Sitting g.B.Watched.exact c.args.route.now c.args.event.now c.args.now _
    c.args.client.now c.run.new.self (outside_of g.D.Door g.B.Watched c.args.door.now c.args.backend.now)
    (outside_of g.D.Door g.B.Watched c.run.new.door c.run.new.backend) c.in-Run.is) c.run.ensures.runs

pub unreachable-requires : goal.unreachable-requires
unreachable-requires g c =
    not_a_client c.args.event.now c.requires.its c.in_default.not-Feed c.in_default.not-End c.in_default.not-Step c.in_default.not-Run

use Rattle.std.proofs.Common.{refl}
use Rattle.event_loop.specs.declared.fronted.Fronted.TheVariants.{Memory}
use Rattle.event_top.proofs.Served.{told}
use Rattle.event_top.proofs.calls.serve_route.Goals as goal

pub returns-in-Ended : goal.returns-in-Ended
returns-in-Ended g c =
    told g.W.World g.A.In.EdgeSource g.A.Out.EdgeSink g.A.EdgeAccept g.P.Poller g.B.Watched c.args.route.now c.args.front.now c.serve_over_pool.new.front _ _ _ _ c.tell_served.result c.in-Ended.ensures
    c.len-before.ensures c.len-after.ensures c.saturating_sub.ensures c.tell_served.ensures

pub returns-in-AcceptFailed : goal.returns-in-AcceptFailed
returns-in-AcceptFailed g c = (c.in-AcceptFailed.ensures, c.say.ensures)

pub returns-in-PollFailed : goal.returns-in-PollFailed
returns-in-PollFailed g c = (c.in-PollFailed.ensures, c.say-in-PollFailed.ensures)

pub returns-in-Memory : goal.returns-in-Memory
returns-in-Memory g c = (refl, (Memory, c.in-Memory.ensures))

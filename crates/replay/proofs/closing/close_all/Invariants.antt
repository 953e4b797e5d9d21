use Rattle.replay.specs.Trace.{outside_of}
use Rattle.replay.proofs.ClosingLemmas.{AreClosedUpto}
use Rattle.replay.proofs.closing.close_all.Given as goal

-- the clients up to a place are closed
abbrev pub invariant-loop-place : goal.invariant-loop-place
invariant-loop-place g l = AreClosedUpto g.W.World g.B.Session.Sitting g.B.Watched.exact l.route l.now l.place
    (record { clients = l.fn.clients; outside = outside_of g.D.Door g.B.Watched l.fn.door l.fn.backend })
    (record { clients = l.clients; outside = outside_of g.D.Door g.B.Watched l.door l.backend })

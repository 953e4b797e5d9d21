use Rattle.std.proofs.Common.{refl}
use Rattle.event_loop.proofs.rounds.end_or_wait.Goals as goal

pub returns-in-Some-clause-ends : goal.returns-in-Some-clause-ends
returns-in-Some-clause-ends g c = λ from then left h.
    c.in-Some.ensures from then (g.P.Poller.faults c.args.poller.now) (g.P.Poller.faults c.args.poller.now) left h

pub returns-in-Failed-clause-ends : goal.returns-in-Failed-clause-ends
returns-in-Failed-clause-ends g c = λ from then left h.
    (tt, c.in-Failed.ensures.failed refl)

use Rattle.leg.specs.Terms.{lent_terms}
use Rattle.leg.proofs.AwaitedLemmas.{waits, asks}
use Rattle.leg.proofs.steps.turn_phase.Goals as goal

pub returns-in-Begin : goal.returns-in-Begin
returns-in-Begin g c = record { step = rw c.in-Begin.is (c.take.ensures.step g.B.Watched.exact (record { counts = g.B.Watched.counts c.args.backend.now; happened = g.B.Watched.happened c.args.backend.now })) }

pub returns-in-Returning : goal.returns-in-Returning
returns-in-Returning g c = record { step = rw c.in-Returning.is (c.put_back.ensures.step g.B.Watched.exact (record { counts = g.B.Watched.counts c.args.backend.now; happened = g.B.Watched.happened c.args.backend.now })) }

pub returns-in-Losing : goal.returns-in-Losing
returns-in-Losing g c = record { step = rw c.in-Losing.is (c.lose.ensures.step c.args.now g.B.Watched.exact (record { counts = g.B.Watched.counts c.args.backend.now; happened = g.B.Watched.happened c.args.backend.now })) }

pub returns-in-Redialling : goal.returns-in-Redialling
returns-in-Redialling g c = record { step = rw c.in-Redialling.is (c.redial.ensures.step c.args.now g.B.Watched.exact (record { counts = g.B.Watched.counts c.args.backend.now; happened = g.B.Watched.happened c.args.backend.now })) }

pub returns-in-Done : goal.returns-in-Done
returns-in-Done g c = record { step = rw c.in-Done.is (c.stay_done.ensures.step c.args.now g.B.Watched.exact (record { pool = g.D.Door.pool c.args.door.now; counts = g.D.Door.counts c.args.door.now }) (record { counts = g.B.Watched.counts c.args.backend.now; happened = g.B.Watched.happened c.args.backend.now }) (rw c.in-Done.is at c.requires.stands)) }

pub returns-in-Spoiled : goal.returns-in-Spoiled
returns-in-Spoiled g c = record { step = rw c.in-Spoiled.is (c.stay_spoiled.ensures.step c.args.now g.B.Watched.exact (record { pool = g.D.Door.pool c.args.door.now; counts = g.D.Door.counts c.args.door.now }) (record { counts = g.B.Watched.counts c.args.backend.now; happened = g.B.Watched.happened c.args.backend.now })) }

pub returns-in-Ended : goal.returns-in-Ended
returns-in-Ended g c = record { step = rw c.in-Ended.is (c.stay_ended.ensures.step c.args.now g.B.Watched.exact (record { pool = g.D.Door.pool c.args.door.now; counts = g.D.Door.counts c.args.door.now }) (record { counts = g.B.Watched.counts c.args.backend.now; happened = g.B.Watched.happened c.args.backend.now })) }

pub returns-then-is_waiting : goal.returns-then-is_waiting
returns-then-is_waiting g c = record { step = c.hear.ensures.step (record { pool = g.D.Door.pool c.args.door.now; counts = g.D.Door.counts c.args.door.now }) }

pub returns-else-is_waiting : goal.returns-else-is_waiting
returns-else-is_waiting g c = record { step = c.open_or_ask.ensures.step c.args.now (record { pool = g.D.Door.pool c.args.door.now; counts = g.D.Door.counts c.args.door.now }) }

pub hear-requires-clause-waits : goal.hear-requires-clause-waits
hear-requires-clause-waits g c =
    waits g.W.World g.S.Sitting (lent_terms c.args.terms.now) (g.D.Door.counts c.args.door.now).most c.args.task.now c.args.phase c.args.account.now
    (let is = c.if-is_waiting.true in cc) c.requires.stands

pub open_or_ask-requires-clause-asks : goal.open_or_ask-requires-clause-asks
open_or_ask-requires-clause-asks g c =
    let n = c.in_default in
    asks g.W.World g.S.Sitting (lent_terms c.args.terms.now) (g.D.Door.counts c.args.door.now).most c.args.task.now c.args.phase c.args.account.now
    (let is = c.if-is_waiting.false in cc) n.not-Begin n.not-Returning n.not-Losing n.not-Redialling n.not-Done n.not-Spoiled n.not-Ended c.requires.stands

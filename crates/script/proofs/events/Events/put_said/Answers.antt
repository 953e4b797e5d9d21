use Rattle.script.proofs.events.Events.put_said.Goals as goal

pub returns-in-Says-clause-events : goal.returns-in-Says-clause-events
returns-in-Says-clause-events c = rw c.in-Says.is c.put.ensures.events

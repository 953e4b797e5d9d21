use Rattle.std.proofs.Common.{◌≡◌, drop}
use Rattle.gw_memory.specs.FakeSessions.{made_in}
use Rattle.gw_memory.proofs.sessions.FakeSession.made.Given as goal

abbrev pub invariant-loop-answer : goal.invariant-loop-answer
invariant-loop-answer l = made_in (drop l.answer-index l.answer-items) l.name ≡ made_in l.answer-items l.name

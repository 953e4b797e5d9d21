use Rattle.event_loop.proofs.FrontLemmas.{AreNoneBelow}
use Rattle.event_loop.proofs.rounds.none_is_open.Given as goal

abbrev pub invariant-loop-place : goal.invariant-loop-place
invariant-loop-place g l = AreNoneBelow l.place l.places

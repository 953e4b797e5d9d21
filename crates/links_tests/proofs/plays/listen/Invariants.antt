use Rattle.links_tests.specs.Stories.{IsStage}
use Rattle.links_tests.proofs.plays.listen.Given as goal

abbrev pub invariant-loop-waits : goal.invariant-loop-waits
invariant-loop-waits g l = IsStage g.B.Session.Sitting l.play.stage l.play.hits

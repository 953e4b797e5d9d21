use Rattle.links_tests.specs.Stories.{IsStage}
use Rattle.links_tests.proofs.plays.take_steps.Given as goal

abbrev pub invariant-loop-step : goal.invariant-loop-step
invariant-loop-step g l = IsStage g.B.Session.Sitting l.play.stage l.play.hits

use Rattle.leg_tests.specs.Played.{ArePlayed}
use Rattle.leg_tests.proofs.plays.take_steps.Given as goal

-- the legs that are played are the route's
abbrev pub invariant-loop-step : goal.invariant-loop-step
invariant-loop-step g l = ArePlayed g.W.World g.B.Session.Sitting l.route (g.D.Door.counts l.door).most l.play.leg l.play.other

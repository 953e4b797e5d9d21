use Rattle.conn_tests.specs.Played.{ArePlayed}
use Rattle.conn_tests.proofs.plays.take_each.Given as goal

-- both stay connections of the route
abbrev pub invariant-loop-answer : goal.invariant-loop-answer
invariant-loop-answer g l =
    ArePlayed g.W.World g.S.Sitting l.route (g.D.Door.counts l.door).most l.play.client l.play.other

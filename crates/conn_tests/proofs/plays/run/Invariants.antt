use Rattle.conn_tests.specs.Played.{ArePlayed}
use Rattle.conn_tests.proofs.plays.run.Given as goal

-- both stay connections of the route
abbrev pub invariant-loop : goal.invariant-loop
invariant-loop g l =
    ArePlayed g.W.World g.S.Sitting l.route (g.D.Door.counts l.door).most l.play.client l.play.other

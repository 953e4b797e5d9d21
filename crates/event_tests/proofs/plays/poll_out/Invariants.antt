use Rattle.event_front.specs.conn_served.front_conn.steps.States.{IsConnOf}
use Rattle.event_tests.proofs.plays.poll_out.Given as goal

-- it stays a connection of the route
abbrev pub invariant-loop-poll : goal.invariant-loop-poll
invariant-loop-poll g l = IsConnOf g.W.World g.S.Sitting l.route (g.D.Door.counts l.door).most l.task.conn

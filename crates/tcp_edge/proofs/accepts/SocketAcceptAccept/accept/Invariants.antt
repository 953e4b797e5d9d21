use Rattle.std.proofs.Common.{◌≤◌}
use Rattle.tcp_edge.proofs.accepts.SocketAcceptAccept.accept.Given as goal

-- the count of faults does not fall
abbrev pub invariant-loop : goal.invariant-loop
invariant-loop g l = l.initial.self.faults ≤ l.self.faults

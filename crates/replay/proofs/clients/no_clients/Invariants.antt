use Rattle.std.proofs.Common.{◌≤◌, ◌-◌, length}
use Rattle.replay.specs.Clients.{AreNone}
use Rattle.replay.proofs.clients.no_clients.Given as goal

abbrev pub invariant-empty : goal.invariant-empty
invariant-empty g l = record { empty : AreNone l.clients.items; within : length l.clients.items ≤ l.count }

abbrev pub decreases-empty : goal.decreases-empty
decreases-empty g l = l.count - length l.clients.items

use Rattle.std.proofs.Common.{◌≤◌, ◌-◌, length}
use Rattle.event_loop.specs.steps.Places.{AreNone}
use Rattle.event_loop.proofs.rounds.empty_places.Given as goal

abbrev pub invariant-empty : goal.invariant-empty
invariant-empty g l = record { empty : AreNone l.places.items; within : length l.places.items ≤ l.most }

abbrev pub decreases-empty : goal.decreases-empty
decreases-empty g l = l.most - length l.places.items

use Rattle.std.proofs.Common.{◌≡◌, ◌++◌, map, take, drop, length}
use Rattle.pool_roster.specs.Told.{settled}
use Rattle.pool_roster.proofs.berths.settle_each.Given as goal

abbrev pub invariant-loop-place : goal.invariant-loop-place
invariant-loop-place g l = record {
  all : l.place-end ≡ length l.initial.berths.items;
  done : l.berths.items ≡ map (settled l.expiries l.ttl l.stamp) (take l.place l.initial.berths.items) ++ drop l.place l.initial.berths.items;
}

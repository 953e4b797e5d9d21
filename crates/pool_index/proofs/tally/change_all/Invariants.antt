use Rattle.std.proofs.Common.{◌≡◌, ◌++◌, map, take, drop, length}
use Rattle.std.specs.List.{HoldsAt}
use Rattle.pool_index.specs.Tallies.{changed}
use Rattle.pool_index.proofs.tally.change_all.Given as goal

abbrev pub invariant-loop-row : goal.invariant-loop-row
invariant-loop-row g l = record {
  all : l.row-end ≡ length l.initial.tallies.items;
  done : HoldsAt (λ o. l.tallies.items ≡ map (changed l.comes o) (take l.row l.initial.tallies.items) ++ drop l.row l.initial.tallies.items) l.roster.sessions l.place;
}

use Rattle.std.proofs.Common.{◌≡◌, ◌+◌, ◌≤◌, ◌++◌, length, map, vec_capacity, vec_len}
use Rattle.package.specs.steps.Packages.{AreDone}
use Rattle.package.specs.steps.Flights.{ended, standing}
use Rattle.package.proofs.answers.answers_in.Given as goal

abbrev pub invariant-loop-leg : goal.invariant-loop-leg
invariant-loop-leg g l = record {
  so_far : map ended l.answers.items ++ map standing l.legs.items ≡ map standing l.initial.legs.items;
  done : AreDone l.legs.items;
  room : vec_len l.answers + length l.legs.items ≤ vec_capacity l.answers;
}

abbrev pub decreases-loop-leg : goal.decreases-loop-leg
decreases-loop-leg g l = length l.legs.items

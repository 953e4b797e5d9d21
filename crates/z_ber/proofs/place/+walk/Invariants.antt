use Rattle.std.proofs.Common.{◌≡◌, ◌+◌, ◌*◌, ◌≤◌, length}
use Rattle.z_ber.proofs.WalkLemmas.{Comes, Nears}
use Rattle.z_ber.proofs.place.+walk.Given as goal

abbrev pub decreases-are_elements : goal.decreases-are_elements
decreases-are_elements l = 2 * l.levels + 1

abbrev pub decreases-closed_size : goal.decreases-closed_size
decreases-closed_size l = 2 * l.levels + 1

abbrev pub decreases-size_behind : goal.decreases-size_behind
decreases-size_behind l = 2 * l.levels

-- the last element is gone into, so levels go down
abbrev pub invariant-are_elements-loop-rest : goal.invariant-are_elements-loop-rest
invariant-are_elements-loop-rest l = record {
  few : l.left ≤ l.fn.levels;
  comes : Comes l.fn.levels l.fn.octets l.left l.rest;
}

abbrev pub decreases-are_elements-loop-rest : goal.decreases-are_elements-loop-rest
decreases-are_elements-loop-rest l = length l.rest

-- the levels that are open and those that are left are one more than all
abbrev pub invariant-closed_size-loop-opened : goal.invariant-closed_size-loop-opened
invariant-closed_size-loop-opened l = record {
  sum : l.opened + l.left ≡ l.fn.levels + 1;
  nears : Nears l.fn.levels l.fn.octets l.opened l.left l.rest;
}

abbrev pub decreases-closed_size-loop-opened : goal.decreases-closed_size-loop-opened
decreases-closed_size-loop-opened l = length l.rest

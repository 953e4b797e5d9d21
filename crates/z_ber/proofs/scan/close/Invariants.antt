use Rattle.std.proofs.Common.{◌-◌, ◌<◌, ◌≤◌, length}
use Rattle.z_ber.specs.Due.{Stands}
use Rattle.z_ber.proofs.scan.close.Given as goal

abbrev pub invariant-loop-next : goal.invariant-loop-next
invariant-loop-next l = record {
  stands : Stands l.bytes l.scan.passed l.scan.opened;
  opened : 0 < l.scan.opened;
  on : l.fn.start.passed ≤ l.scan.passed;
}

abbrev pub decreases-loop-next : goal.decreases-loop-next
decreases-loop-next l = length l.bytes - l.scan.passed

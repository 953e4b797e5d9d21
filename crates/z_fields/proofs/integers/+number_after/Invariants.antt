use Rattle.std.proofs.Common.{length}
use Rattle.z_fields.proofs.integers.+number_after.Given as goal

abbrev pub decreases-number_after : goal.decreases-number_after
decreases-number_after l = length l.octets.now

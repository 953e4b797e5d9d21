use Rattle.std.proofs.Common.{length}
use Rattle.z_fields.proofs.integers.+turned_after.Given as goal

abbrev pub decreases-turned_after : goal.decreases-turned_after
decreases-turned_after l = length l.octets.now

use Rattle.std.proofs.Common.{length}
use Rattle.z_ber.proofs.read.+septets.Given as goal

abbrev pub decreases-septets : goal.decreases-septets
decreases-septets l = length l.bytes.now

use Rattle.std.proofs.Common.{length}
use Rattle.z_ber.proofs.oid.+number.Given as goal

abbrev pub decreases-number : goal.decreases-number
decreases-number l = length l.bytes.now

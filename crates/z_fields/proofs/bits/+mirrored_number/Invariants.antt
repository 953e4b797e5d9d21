use Rattle.std.proofs.Common.{length}
use Rattle.z_fields.proofs.bits.+mirrored_number.Given as goal

abbrev pub decreases-mirrored_number : goal.decreases-mirrored_number
decreases-mirrored_number l = length l.octets.now

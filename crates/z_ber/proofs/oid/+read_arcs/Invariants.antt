use Rattle.std.proofs.Common.{length}
use Rattle.z_ber.proofs.oid.+read_arcs.Given as goal

abbrev pub decreases-read_arcs : goal.decreases-read_arcs
decreases-read_arcs l = length l.bytes.now

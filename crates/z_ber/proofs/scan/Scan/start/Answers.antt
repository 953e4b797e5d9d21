use Rattle.z_ber.proofs.WholeReading.{stands-start}
use Rattle.z_ber.proofs.scan.Scan.start.Goals as goal

pub returns-clause-stands : goal.returns-clause-stands
returns-clause-stands c = stands-start

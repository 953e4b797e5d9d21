use Rattle.z_ber.proofs.ScanReading.{stands-on}
use Rattle.z_ber.proofs.laws.stands_on.Goals as goal

pub returns : goal.returns
returns c = stands-on

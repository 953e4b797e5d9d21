use Rattle.z_ber.proofs.WrittenLaws.{first_written, child_written}
use Rattle.z_ber.proofs.laws.lends_written.Goals as goal

pub returns : goal.returns
returns c = record { first = first_written; child = child_written }

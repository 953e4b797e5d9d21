use Rattle.z_laws.proofs.ReplyUnits.{reply-unit}
use Rattle.z_laws.proofs.laws.written_replies_are_units.Goals as goal

pub returns : goal.returns
returns c = reply-unit

use Rattle.z_laws.proofs.ReplyAgain.{reply-again}
use Rattle.z_laws.proofs.laws.written_replies_are_read.Goals as goal

pub returns : goal.returns
returns c = reply-again

use Rattle.z_laws.proofs.OneForm.{reply-one}
use Rattle.z_laws.proofs.laws.written_replies_are_one.Goals as goal

pub returns : goal.returns
returns c = reply-one

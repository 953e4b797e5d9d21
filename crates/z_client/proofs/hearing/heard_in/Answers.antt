use Rattle.z_client.specs.Sets.{pending_of}
use Rattle.z_client.proofs.HearingLemmas.{heard_is_in_if}
use Rattle.z_client.proofs.hearing.heard_in.Goals as goal

pub returns-in-Ok : goal.returns-in-Ok
returns-in-Ok c = heard_is_in_if (pending_of c.args.waiting.now) c.args.unit.now c.in-Ok.reply c.heard_of.result c.in-Ok.ensures c.heard_of.ensures

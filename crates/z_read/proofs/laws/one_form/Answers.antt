use Rattle.z_read.proofs.OneFormUnits.{unchanged_requests, unchanged_replies}
use Rattle.z_read.proofs.laws.one_form.Goals as goal

pub returns : goal.returns
returns c = record { request = unchanged_requests; reply = unchanged_replies }

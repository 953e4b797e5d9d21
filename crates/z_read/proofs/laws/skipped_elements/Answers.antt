use Rattle.z_read.proofs.SkippedLemmas.{skipped_requests, skipped_replies}
use Rattle.z_read.proofs.laws.skipped_elements.Goals as goal

pub returns : goal.returns
returns c = record { request = skipped_requests; reply = skipped_replies }

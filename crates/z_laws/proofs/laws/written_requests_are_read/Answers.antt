use Rattle.z_laws.proofs.RequestAgain.{request-again}
use Rattle.z_laws.proofs.laws.written_requests_are_read.Goals as goal

pub returns : goal.returns
returns c = request-again

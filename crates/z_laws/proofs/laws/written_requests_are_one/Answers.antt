use Rattle.z_laws.proofs.OneForm.{request-one}
use Rattle.z_laws.proofs.laws.written_requests_are_one.Goals as goal

pub returns : goal.returns
returns c = request-one

use Rattle.z_laws.proofs.RequestUnits.{request-unit}
use Rattle.z_laws.proofs.laws.written_requests_are_units.Goals as goal

pub returns : goal.returns
returns c = request-unit

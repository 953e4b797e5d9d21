use Rattle.gateway_rules.proofs.Runs.{units-end}
use Rattle.gateway_rules.proofs.laws.units_end.Goals as goal

pub returns : goal.returns
returns g c = units-end g.W.World

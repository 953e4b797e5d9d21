use Rattle.gateway_rules.proofs.Runs.{rest-ends}
use Rattle.gateway_rules.proofs.laws.rest_ends.Goals as goal

pub returns : goal.returns
returns g c = rest-ends g.W.World

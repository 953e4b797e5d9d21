use Rattle.gateway_rules.proofs.Runs.{runs-go-on}
use Rattle.gateway_rules.proofs.laws.runs_go_on.Goals as goal

pub returns : goal.returns
returns g c = runs-go-on g.W.World

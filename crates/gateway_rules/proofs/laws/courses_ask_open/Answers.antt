use Rattle.gateway_rules.proofs.AccessRuns.{courses-open}
use Rattle.gateway_rules.proofs.laws.courses_ask_open.Goals as goal

pub returns : goal.returns
returns g c = courses-open g.W.World

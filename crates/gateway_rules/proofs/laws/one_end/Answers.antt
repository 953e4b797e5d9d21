use Rattle.gateway_rules.proofs.OneEnding.{one-end}
use Rattle.gateway_rules.proofs.laws.one_end.Goals as goal

pub returns : goal.returns
returns g c = one-end g.V.World g.W.World

use Rattle.gateway_rules.proofs.FairLegs.{members-answer}
use Rattle.gateway_rules.proofs.laws.fair_legs.Goals as goal

pub returns : goal.returns
returns g c = members-answer g.W.World

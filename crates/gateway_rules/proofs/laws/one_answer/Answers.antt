use Rattle.gateway_rules.proofs.OneAnswer.{one-answer}
use Rattle.gateway_rules.proofs.laws.one_answer.Goals as goal

pub returns : goal.returns
returns g c = one-answer g.W.World

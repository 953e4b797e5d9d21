use Rattle.gateway_rules.proofs.SomeAnswer.{some-answer}
use Rattle.gateway_rules.proofs.laws.some_answer.Goals as goal

pub returns : goal.returns
returns g c = some-answer g.W.World

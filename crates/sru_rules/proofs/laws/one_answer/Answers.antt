use Rattle.sru_rules.proofs.OneAnswer.{one_answer}
use Rattle.sru_rules.proofs.laws.one_answer.Goals as goal

pub returns : goal.returns
returns g c = one_answer g.W.World

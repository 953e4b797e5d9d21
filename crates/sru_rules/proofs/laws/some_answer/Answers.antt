use Rattle.sru_rules.proofs.SomeAnswer.{some_answer}
use Rattle.sru_rules.proofs.SomeText.{some_text}
use Rattle.sru_rules.proofs.laws.some_answer.Goals as goal

pub returns : goal.returns
returns g c = some_answer g.W.World (some_text c.one_reading.ensures.reading)

use Rattle.sru_rules.proofs.OneAnswer.{one_end, answers_end_so}
use Rattle.sru_rules.proofs.laws.one_end.Goals as goal

pub returns : goal.returns
returns g c = record { one = one_end g.V.World g.W.World; ending = answers_end_so g.V.World }

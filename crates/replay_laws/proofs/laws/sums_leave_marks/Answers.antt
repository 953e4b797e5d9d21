use Rattle.replay_laws.proofs.PageLemmas.{marks-left}
use Rattle.replay_laws.proofs.laws.sums_leave_marks.Goals as goal

pub returns : goal.returns
returns g c = λ route before behind report counted goes. marks-left g.W.World route before behind report counted goes

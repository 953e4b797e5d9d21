use Rattle.replay.proofs.UncausedLemmas.{uncaused}
use Rattle.replay.proofs.laws.uncaused_is_plain.Goals as goal

pub returns : goal.returns
returns g c = λ pool report before behind numbers causes calm. uncaused pool report before behind numbers causes calm

use Rattle.front_conn_costs.proofs.PaidLemmas.{paid-risen}
use Rattle.front_conn_costs.proofs.laws.paid_is_risen.Goals as goal

pub returns : goal.returns
returns g c = λ old new before behind rests pays low high. paid-risen old new before behind rests pays low high

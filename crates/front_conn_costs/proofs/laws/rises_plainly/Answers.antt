use Rattle.front_conn_costs.proofs.PaidLemmas.{plainly-as-much, plainly-enough}
use Rattle.front_conn_costs.proofs.laws.rises_plainly.Goals as goal

pub returns : goal.returns
returns c = λ n before behind low high. (plainly-as-much n before behind low high, plainly-enough n before behind low high)

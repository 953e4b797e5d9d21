use Rattle.front_conn_costs.proofs.KeptLemmas.{marks-met}
use Rattle.front_conn_costs.proofs.laws.marks_are_met.Goals as goal

pub returns : goal.returns
returns g c = λ pool kind state. marks-met pool kind state

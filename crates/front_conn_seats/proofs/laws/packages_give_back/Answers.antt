use Rattle.front_conn_seats.proofs.PackageLemmas.{package-gives-back}
use Rattle.front_conn_seats.proofs.laws.packages_give_back.Goals as goal

pub returns : goal.returns
returns g c = λ view before behind others e h. package-gives-back view before behind others e h

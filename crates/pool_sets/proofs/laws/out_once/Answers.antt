use Rattle.pool_sets.proofs.SeatLemmas.{once}
use Rattle.pool_sets.proofs.laws.out_once.Goals as goal

pub returns : goal.returns
returns g c = λ pool seat a. once seat 0 pool.given pool.sessions a

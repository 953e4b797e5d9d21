use Rattle.front_conn_seats.proofs.ThroughLemmas.{goes-parted}
use Rattle.front_conn_seats.proofs.laws.goes_parted.Goals as goal

pub returns : goal.returns
returns g c = λ exact route start points h k. goes-parted g.W.World g.S.Sitting exact route start points h k

use Rattle.front_conn_seats.proofs.WayLemmas.{calls-are-ways}
use Rattle.front_conn_seats.proofs.laws.calls_are_ways.Goals as goal

pub returns : goal.returns
returns g c = λ exact route point. calls-are-ways g.W.World g.S.Sitting exact route point

use Rattle.front_conn_seats.specs.steps.Through.{GoesAlone, GoesAmong}
use Rattle.front_conn_seats.proofs.WayLemmas.{ways-go-on}
use Rattle.front_conn_seats.proofs.laws.ways_go_on.Goals as goal

pub returns : goal.returns
returns g c = λ exact route start.
    (ways-go-on (GoesAlone g.W.World g.S.Sitting exact route) start, ways-go-on (GoesAmong g.W.World g.S.Sitting exact route) start)

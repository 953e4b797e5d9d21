use Rattle.front_conn_works.proofs.ThroughWorks.{goes-begin}
use Rattle.front_conn_works.proofs.laws.goes_begin.Goals as goal

pub returns : goal.returns
returns g c =
    goes-begin g.W.World g.S.Sitting
    (record { fed = c.stands_when_fed.ensures; ended = c.stands_when_ended.ensures; written = c.stands_when_written.ensures })

use Rattle.front_conn.proofs.FeedLemmas.{stands-when-fed}
use Rattle.front_conn.proofs.laws.stands_when_fed.Goals as goal

pub returns : goal.returns
returns g c = stands-when-fed g.W.World g.S.Sitting c.gets_go_on.ensures.stands

use Rattle.front_conn.proofs.FeedLemmas.{stands-when-ended}
use Rattle.front_conn.proofs.laws.stands_when_ended.Goals as goal

pub returns : goal.returns
returns g c = stands-when-ended g.W.World g.S.Sitting

use Rattle.front_conn.proofs.FeedLemmas.{ends-answered}
use Rattle.front_conn.proofs.laws.ends_answered.Goals as goal

pub returns : goal.returns
returns g c = ends-answered g.W.World g.S.Sitting

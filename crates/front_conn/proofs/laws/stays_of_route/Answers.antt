use Rattle.front_conn.proofs.FeedLemmas.{stays-of-route}
use Rattle.front_conn.proofs.laws.stays_of_route.Goals as goal

pub returns : goal.returns
returns g c = stays-of-route g.W.World g.S.Sitting

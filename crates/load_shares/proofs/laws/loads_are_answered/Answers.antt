use Rattle.load_shares.proofs.AnsweredLoads.{loads-answered}
use Rattle.load_shares.proofs.laws.loads_are_answered.Goals as goal

pub returns : goal.returns
returns g c = λ clients report few fair right. loads-answered g.W.World c.requests_are_received.ensures clients report few fair right

use Rattle.load_shares.proofs.AnsweredLoads.{loads-answered_plainly}
use Rattle.load_shares.proofs.laws.loads_are_answered_plainly.Goals as goal

pub returns : goal.returns
returns g c =
    λ clients report few fair right plain.
    loads-answered_plainly g.W.World c.requests_are_received.ensures c.one_answer.ensures clients report few fair right plain

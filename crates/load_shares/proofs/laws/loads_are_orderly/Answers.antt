use Rattle.load_shares.proofs.OrderlyLoads.{orderly}
use Rattle.load_shares.proofs.laws.loads_are_orderly.Goals as goal

pub returns : goal.returns
returns g c = λ clients few. orderly g.W.World c.requests_are_received.ensures clients few

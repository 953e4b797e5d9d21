use Rattle.load_shares.proofs.NeedLemmas.{loads-need}
use Rattle.load_shares.proofs.laws.loads_need_so.Goals as goal

pub returns : goal.returns
returns g c = λ clients. loads-need g.W.World clients

use Rattle.gateway_rules.proofs.AccessLemmas.{access-kept}
use Rattle.gateway_rules.proofs.laws.access_is_kept.Goals as goal

pub returns : goal.returns
returns g c = access-kept g.W.World

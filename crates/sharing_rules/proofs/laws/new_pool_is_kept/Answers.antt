use Rattle.sharing_rules.proofs.SearchUses.{starts}
use Rattle.sharing_rules.proofs.laws.new_pool_is_kept.Goals as goal

pub returns : goal.returns
returns g c = λ route now p empty. starts g.W.World route now p empty

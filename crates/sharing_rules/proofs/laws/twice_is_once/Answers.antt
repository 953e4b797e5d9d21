use Rattle.sharing_rules.proofs.PutUses.{repeated}
use Rattle.sharing_rules.proofs.laws.twice_is_once.Goals as goal

pub returns : goal.returns
returns g c = λ route who now at one before os kept. repeated g.W.World route who now at one before os kept

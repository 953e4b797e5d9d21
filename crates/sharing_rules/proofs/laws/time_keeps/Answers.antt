use Rattle.sharing_rules.proofs.PoolUses.{kept_later}
use Rattle.sharing_rules.proofs.laws.time_keeps.Goals as goal

pub returns : goal.returns
returns g c = λ route who at earlier now before os later kept. kept_later g.W.World route who at earlier now before os later kept

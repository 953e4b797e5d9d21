use Rattle.sharing_rules.proofs.PutUses.{kept_elsewhere}
use Rattle.sharing_rules.proofs.laws.other_uses_keep.Goals as goal

pub returns : goal.returns
returns g c = λ route who own at now before key os apart kept. kept_elsewhere g.W.World route who now at before own key os apart kept

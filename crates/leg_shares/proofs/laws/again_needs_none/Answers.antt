use Rattle.leg_shares.proofs.UseLemmas.{again-none}
use Rattle.leg_shares.proofs.laws.again_needs_none.Goals as goal

pub returns : goal.returns
returns g c = λ route who now before key numbers used set. again-none g.W.World route who now before key numbers used set

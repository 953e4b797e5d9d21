use Rattle.leg_shares.proofs.UseLemmas.{kept-by-last}
use Rattle.leg_shares.proofs.laws.last_uses_decide.Goals as goal

pub returns : goal.returns
returns g c = λ route who now at uses others os same kept. kept-by-last g.W.World route who at now uses others same os kept

use Rattle.leg_shares.proofs.MemberLemmas.{fair-one}
use Rattle.leg_shares.proofs.laws.fair_class_is_one.Goals as goal

pub returns : goal.returns
returns g c = λ route who fair. fair-one g.W.World route who fair

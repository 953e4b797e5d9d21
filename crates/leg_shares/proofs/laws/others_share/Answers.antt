use Rattle.leg_shares.proofs.OtherLemmas.{shares-on}
use Rattle.leg_shares.proofs.laws.others_share.Goals as goal

pub returns : goal.returns
returns g c = λ route who now before task phase account old new stay shares.
    shares-on g.W.World g.S.Sitting route who now before old new stay task phase account shares

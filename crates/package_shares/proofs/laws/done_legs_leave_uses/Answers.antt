use Rattle.package_shares.proofs.UsesLemmas.{done-leave}
use Rattle.package_shares.proofs.laws.done_legs_leave_uses.Goals as goal

pub returns : goal.returns
returns g c = λ route now before legs pool apart share done.
    done-leave g.W.World g.S.Sitting route now before pool legs apart share done

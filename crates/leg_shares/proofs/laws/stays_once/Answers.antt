use Rattle.leg_shares.proofs.StayLemmas.{stay-on}
use Rattle.leg_shares.proofs.laws.stays_once.Goals as goal

pub returns : goal.returns
returns g c = λ route now os ps qs first later. stay-on route now os ps qs first later

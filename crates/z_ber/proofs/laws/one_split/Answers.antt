use Rattle.z_ber.specs.Frames.{IsDefiniteFrame}
use Rattle.z_ber.proofs.OneSplit.{splits-one, definite_begins_no_other}
use Rattle.z_ber.proofs.laws.one_split.Goals as goal

pub returns : goal.returns
returns c = λ stream rest tail frames others s t.
    splits-one IsDefiniteFrame definite_begins_no_other stream frames others rest tail s t

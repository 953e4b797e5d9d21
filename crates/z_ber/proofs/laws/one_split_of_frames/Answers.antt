use Rattle.z_ber.specs.Frames.{IsFrame}
use Rattle.z_ber.proofs.OneSplit.{splits-one, frame_begins_no_other}
use Rattle.z_ber.proofs.laws.one_split_of_frames.Goals as goal

pub returns : goal.returns
returns c = λ stream rest tail frames others. splits-one IsFrame frame_begins_no_other stream frames others rest tail

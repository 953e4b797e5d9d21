use Rattle.std.proofs.Common.{refl}
use Rattle.z_frame.proofs.framer.refusal.Goals as goal

pub returns-in-None : goal.returns-in-None
returns-in-None c = (c.requires, c.in-None.ensures.none refl, refl)

use Rattle.z_ber.proofs.OidReading.{oid-begins}
use Rattle.z_ber.proofs.oid.oid_of.Goals as goal

pub returns-in-None : goal.returns-in-None
returns-in-None c = λ arcs valid e.
    let b = oid-begins c.args.contents.now arcs valid e in c.in-None.ensures.read b.0 b.1 b.2 b.3

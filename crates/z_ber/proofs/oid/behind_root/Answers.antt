use Rattle.std.proofs.Common.{arith}
use Rattle.z_ber.proofs.OidReading.{oid-made, oid-none}
use Rattle.z_ber.proofs.oid.behind_root.Goals as goal

pub returns-in-Some : goal.returns-in-Some
returns-in-Some c =
    let f = rw c.in-Some.is at c.in_ok-arcs.ensures in
    oid-made c.args.first c.args.second c.in_ok-root.root.items c.args.bytes.now c.in-Some.arcs.items f.0 c.from_vec.result c.requires (omega arith) (omega arith) c.in_ok-root.ensures.items f.1 f.2 c.from_vec.ensures.value c.from_vec.ensures.valid.1

pub returns-in-None : goal.returns-in-None
returns-in-None c =
    let none = rw c.in-None.is at c.in_ok-arcs.ensures in
    λ arcs. oid-none c.args.first c.args.second c.args.bytes.now arcs (λ more a. none more (rw c.in_ok-root.ensures.items a))

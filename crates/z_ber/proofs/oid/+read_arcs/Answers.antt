use Rattle.std.proofs.Common.{arith, length}
use Rattle.z_ber.proofs.OidReading.{arcs-none, arcs-front, arcs-on, some_octet}
use Rattle.z_ber.proofs.oid.+read_arcs.Goals as goal

pub returns-in-None : goal.returns-in-None
returns-in-None t c = λ more a.
    arcs-none (length c.args.arcs.items) c.args.bytes.now more (some_octet c.args.bytes.now c.if-is_empty.ensures) c.in-None.ensures.read a

pub returns-in_ok-push-in-Ok : goal.returns-in_ok-push-in-Ok
returns-in_ok-push-in-Ok t c =
    arcs-on (λ all. all.items) c.read_arcs.result c.args.arcs.items c.push.new.self.items c.in-Ok.arc c.in-Some.number c.args.bytes.now c.in-Some.rest.now (some_octet c.args.bytes.now c.if-is_empty.ensures) (omega arith) c.in-Ok.ensures.1 c.in-Some.ensures.read.1 c.in_ok-push-in-Ok.ensures.items c.read_arcs.ensures

pub returns-in-Err : goal.returns-in-Err
returns-in-Err t c = λ more a.
    c.in-Err.ensures (arcs-front (length c.args.arcs.items) c.in-Some.number c.args.bytes.now c.in-Some.rest.now more (some_octet c.args.bytes.now c.if-is_empty.ensures) c.in-Some.ensures.read.1 a).low

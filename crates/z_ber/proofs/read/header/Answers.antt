use Rattle.std.proofs.Common.{arith}
use Rattle.z_ber.proofs.HeaderReading.{header-failed, header-read, header-front}
use Rattle.z_ber.proofs.read.header.Goals as goal

pub returns-in-Ok : goal.returns-in-Ok
returns-in-Ok c =
    header-front c.args.bytes.now c.in-Ok.tag c.in-Ok.length c.in-Ok.rest.now (header-read c.args.bytes.now (c.in-Ok.tag, c.in-Ok.length, c.in-Ok.rest.now) (λ i. omega (arith, c.type_inv.bytes i)) c.in-Ok.ensures.read)

pub returns-in-Err : goal.returns-in-Err
returns-in-Err c = header-failed c.args.bytes.now c.in-Err.fault (λ i. omega (arith, c.type_inv.bytes i)) c.in-Err.ensures.read

use Rattle.std.proofs.Common.{arith}
use Rattle.z_ber.proofs.ElementReading.{extent-found, extent-refused}
use Rattle.z_ber.proofs.element.lend.Goals as goal

pub returns-in-Ok-clause-lent : goal.returns-in-Ok-clause-lent
returns-in-Ok-clause-lent c = record {
  begins = extent-found c.args.levels c.args.bytes.now c.in-Ok.body.now c.in-Ok.rest.now c.in-Ok.tag c.requires.some (λ i. omega (arith, c.type_inv.bytes i)) c.in-Ok.ensures;
  children = c.children-left.ensures;
  deeper = omega arith;
}

pub returns-in-Err-clause-refused : goal.returns-in-Err-clause-refused
returns-in-Err-clause-refused c = extent-refused c.args.levels c.args.bytes.now c.in-Err.fault c.requires.some (λ i. omega (arith, c.type_inv.bytes i)) c.in-Err.ensures

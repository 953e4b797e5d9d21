use Rattle.std.proofs.Common.{sym, arith}
use Rattle.z_ber.proofs.StrictReading.{written_at-found, written_at-none}
use Rattle.z_ber.proofs.strict.read_written_element.Goals as goal

pub returns-in-Some : goal.returns-in-Some
returns-in-Some c =
    written_at-found c.args.bytes.now c.in-Some.tag c.in-Some.contents.now c.in-Some.rest.now (λ i. omega (arith, c.type_inv.bytes i)) (sym c.in-Some.ensures)

pub returns-in-None : goal.returns-in-None
returns-in-None c = λ tag contents rest valid s.
    written_at-none c.args.bytes.now tag contents rest (omega arith) (sym c.in-None.ensures) valid s

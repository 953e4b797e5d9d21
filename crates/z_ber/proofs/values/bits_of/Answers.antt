use Rattle.std.proofs.Common.{sym, arith}
use Rattle.z_ber.proofs.BitsReading.{bits_at-found, bits_at-none}
use Rattle.z_ber.proofs.values.bits_of.Goals as goal

pub returns-in-Some : goal.returns-in-Some
returns-in-Some c =
    (omega arith, bits_at-found c.args.contents.now c.in-Some.value (λ i. omega (arith, c.type_inv.contents i)) (sym c.in-Some.ensures))

pub returns-in-None : goal.returns-in-None
returns-in-None c = λ value fits s. bits_at-none c.args.contents.now value fits (sym c.in-None.ensures) s

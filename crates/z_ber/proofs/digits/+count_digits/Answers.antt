use Rattle.std.proofs.Common.{arith}
use Rattle.std.proofs.lemmas.Int.Digits.{length-digits_of_step}
use Rattle.z_ber.proofs.DigitSteps.{few_digits}
use Rattle.z_ber.proofs.digits.+count_digits.Goals as goal

pub returns-clause-value : goal.returns-clause-value
returns-clause-value t c =
    omega (arith, length-digits_of_step c.args.base c.args.number c.requires (omega arith), c.count_digits.ensures.value)

pub returns-clause-small : goal.returns-clause-small
returns-clause-small t c =
    omega (arith, length-digits_of_step c.args.base c.args.number c.requires (omega arith), c.count_digits.ensures.value, few_digits c.args.base c.args.number c.requires (omega arith))

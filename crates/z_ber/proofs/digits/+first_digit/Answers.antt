use Rattle.std.proofs.Common.{◌∙◌, arith}
use Rattle.z_ber.proofs.DigitSteps.{first_of_one, first_of_more}
use Rattle.z_ber.proofs.digits.+first_digit.Goals as goal

pub returns-then-number-lt256 : goal.returns-then-number-lt256
returns-then-number-lt256 t c = first_of_one 128 c.args.number (omega arith) (omega arith)

pub returns-else-number-lt256 : goal.returns-else-number-lt256
returns-else-number-lt256 t c = c.first_digit.ensures ∙ first_of_more 128 c.args.number (omega arith)

use Rattle.std.proofs.Common.{arith}
use Rattle.route_text.proofs.TextLemmas.{number_after-first}
use Rattle.route_text.proofs.address.+number_within.Goals as goal

pub returns-else-number-most : goal.returns-else-number-most
returns-else-number-most t c = omega (arith, number_after-first c.args.high c.args.digits.now c.in-len1-up.len_at_least)

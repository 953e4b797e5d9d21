use Rattle.std.proofs.Common.{◌∙◌, drop, sym, ap, arith}
use Rattle.gateway_config.specs.Numbers.{within}
use Rattle.gateway_config.proofs.NumberLemmas.{within-past}
use Rattle.gateway_config.proofs.numbers.number_written.Goals as goal

pub returns-then-number-high : goal.returns-then-number-high
returns-then-number-high c =
    let left = drop c.loop-digit.digit-index c.args.digits.now in
    sym (ap (λ n. within c.args.low c.args.high n) (sym c.loop-digit.invariant) ∙ within-past c.args.low c.args.high c.loop-digit.number left (omega arith))

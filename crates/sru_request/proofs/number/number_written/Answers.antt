use Rattle.std.proofs.Common.{◌∙◌, drop, sym, ap, arith, length-drop}
use Rattle.sru_request.specs.Choices.{in_range}
use Rattle.sru_request.proofs.NumberLemmas.{in_range-past}
use Rattle.sru_request.proofs.number.number_written.Goals as goal

pub returns-then-number : goal.returns-then-number
returns-then-number c =
    let left = drop c.loop-digit.digit-index c.args.digits.now in
    sym (ap (in_range c.args.least) (sym c.loop-digit.invariant) ∙ in_range-past c.args.least c.loop-digit.number left (omega arith) (omega (arith, length-drop c.loop-digit.digit-index c.args.digits.now)))

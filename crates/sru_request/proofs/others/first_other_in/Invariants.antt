use Rattle.std.proofs.Common.{◌≡◌, drop}
use Rattle.sru_request.specs.Choices.{first_other}
use Rattle.sru_request.proofs.others.first_other_in.Given as goal

-- no other name is passed
abbrev pub invariant-loop-parameter : goal.invariant-loop-parameter
invariant-loop-parameter l = first_other l.given (drop l.parameter-index l.given) ≡ first_other l.given l.given

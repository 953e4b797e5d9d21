use Rattle.std.proofs.Common.{◌≡◌, drop}
use Rattle.sru_request.specs.Parameters.{value_of}
use Rattle.sru_request.proofs.parameter.value_of.Given as goal

-- no parameter of this name is passed
abbrev pub invariant-loop-parameter : goal.invariant-loop-parameter
invariant-loop-parameter l = value_of l.name (drop l.parameter-index l.given) ≡ value_of l.name l.given

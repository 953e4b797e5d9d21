use Rattle.std.proofs.Common.{◌≡◌, ◌++◌, map}
use Rattle.form_urlencoded.specs.Parse.{raw_pairs_left}
use Rattle.sru_request.specs.Parameters.{parameter_of, parameters_of}
use Rattle.sru_request.proofs.parameter.parameters_of.Given as goal

-- the pairs so far, and those that are left
abbrev pub invariant-loop-name : goal.invariant-loop-name
invariant-loop-name l =
    l.given ++ map parameter_of (raw_pairs_left l.name-iterator) ≡ parameters_of l.query

use Rattle.std.proofs.Common.{◌≡◌, drop}
use Rattle.z_types.specs.Digits.{number_after}
use Rattle.gateway_config.proofs.numbers.number_written.Given as goal

-- the number so far goes on by the digits that are left
abbrev pub invariant-loop-digit : goal.invariant-loop-digit
invariant-loop-digit l = number_after l.number (drop l.digit-index l.digits) ≡ number_after 0 l.digits

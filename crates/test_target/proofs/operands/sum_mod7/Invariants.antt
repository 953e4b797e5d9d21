use Rattle.std.proofs.Common.{◌≡◌, ◌%◌, sum, take}
use Rattle.test_target.proofs.operands.sum_mod7.Given as goal

abbrev pub invariant-loop-octet : goal.invariant-loop-octet
invariant-loop-octet l = l.rest ≡ sum (take l.octet-index l.octets) % 7

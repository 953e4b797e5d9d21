use Rattle.std.proofs.Common.{◌≡◌, ◌++◌, take}
use Rattle.sru_reply.specs.Escape.{escaped}
use Rattle.sru_reply.proofs.escape.put_escaped.Given as goal

abbrev pub invariant-loop-octet : goal.invariant-loop-octet
invariant-loop-octet l = l.out ≡ l.fn.out ++ escaped (take l.octet-index l.octets)

use Rattle.std.proofs.Common.{◌≡◌, ◌≤◌, ◌*◌, ◌^◌, take}
use Rattle.gateway_top.specs.Load.{octets_written}
use Rattle.gateway_top.proofs.load.octets_written.Given as goal

abbrev pub invariant-loop-client : goal.invariant-loop-client
invariant-loop-client l = record { counted : l.count ≡ octets_written (take l.client-index l.clients); small : l.count ≤ l.client-index * 2 ^ 64 }

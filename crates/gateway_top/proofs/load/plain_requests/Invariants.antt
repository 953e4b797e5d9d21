use Rattle.std.proofs.Common.{◌≡◌, ◌≤◌, ◌*◌, ◌^◌, take}
use Rattle.gateway_top.specs.Load.{plain_requests}
use Rattle.gateway_top.proofs.load.plain_requests.Given as goal

abbrev pub invariant-loop-client : goal.invariant-loop-client
invariant-loop-client l = record { counted : l.count ≡ plain_requests (take l.client-index l.clients); small : l.count ≤ l.client-index * 2 ^ 64 }

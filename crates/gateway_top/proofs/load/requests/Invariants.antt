use Rattle.std.proofs.Common.{◌≡◌, ◌≤◌, ◌*◌, ◌^◌, take}
use Rattle.replay_shares.specs.replay.Page.{requests}
use Rattle.gateway_top.proofs.load.requests.Given as goal

abbrev pub invariant-loop-client : goal.invariant-loop-client
invariant-loop-client l = record { counted : l.count ≡ requests (take l.client-index l.clients); small : l.count ≤ l.client-index * 2 ^ 64 }

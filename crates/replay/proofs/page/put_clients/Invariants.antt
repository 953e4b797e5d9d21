use Rattle.std.proofs.Common.{◌≡◌, ◌++◌, take}
use Rattle.std.specs.List.{flat_map}
use Rattle.replay.specs.Page.{client_lines}
use Rattle.replay.proofs.page.put_clients.Given as goal

abbrev pub invariant-loop-client : goal.invariant-loop-client
invariant-loop-client l = l.out ≡ l.fn.out ++ flat_map client_lines (take l.client-index l.client-items)

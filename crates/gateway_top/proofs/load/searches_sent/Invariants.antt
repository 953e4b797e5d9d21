use Rattle.std.proofs.Common.{◌≡◌, ◌≤◌, ◌*◌, ◌^◌, take}
use Rattle.gateway_top.specs.Load.{searches_sent}
use Rattle.gateway_top.proofs.load.searches_sent.Given as goal

abbrev pub invariant-loop-class : goal.invariant-loop-class
invariant-loop-class l = record { counted : l.count ≡ searches_sent (take l.class-index l.classes); small : l.count ≤ l.class-index * 2 ^ 64 }

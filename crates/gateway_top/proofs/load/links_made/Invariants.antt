use Rattle.std.proofs.Common.{◌≡◌, ◌≤◌, ◌*◌, ◌^◌, take}
use Rattle.gateway_top.specs.Load.{links_made}
use Rattle.gateway_top.proofs.load.links_made.Given as goal

abbrev pub invariant-loop-class : goal.invariant-loop-class
invariant-loop-class l = record { counted : l.count ≡ links_made (take l.class-index l.classes); small : l.count ≤ l.class-index * 2 ^ 64 }

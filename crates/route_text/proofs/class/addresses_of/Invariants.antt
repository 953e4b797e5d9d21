use Rattle.std.proofs.Common.{◌≡◌, map, take}
use Rattle.route_text.specs.RouteOf.{address_of}
use Rattle.route_text.proofs.class.addresses_of.Given as goal

abbrev pub invariant-loop-name : goal.invariant-loop-name
invariant-loop-name l = l.addresses ≡ map (address_of l.targets) (take l.name-index l.names)

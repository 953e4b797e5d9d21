use Rattle.std.proofs.Common.{◌≡◌, map, take}
use Rattle.route_text.specs.RouteOf.{place_of}
use Rattle.route_text.proofs.route.places_of.Given as goal

abbrev pub invariant-loop-name : goal.invariant-loop-name
invariant-loop-name l = l.places ≡ map (place_of l.names) (take l.name-index l.wanted)

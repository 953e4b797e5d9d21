use Rattle.std.proofs.Common.{◌≡◌, ◌++◌, map, take}
use Rattle.route_text.specs.RouteOf.{leg_of}
use Rattle.route_text.proofs.leg.push_legs.Given as goal

abbrev pub invariant-loop-leg : goal.invariant-loop-leg
invariant-loop-leg l = l.legs ≡ l.initial.legs ++ map (leg_of l.classes l.database) (take l.leg-index l.values)

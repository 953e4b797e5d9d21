use Rattle.std.proofs.Common.{◌≡◌, map, take}
use Rattle.route_text.specs.RouteOf.{group_of}
use Rattle.route_text.proofs.route.groups_of.Given as goal

abbrev pub invariant-loop-group : goal.invariant-loop-group
invariant-loop-group l = l.groups ≡ map (group_of l.targets) (take l.group-index l.values)

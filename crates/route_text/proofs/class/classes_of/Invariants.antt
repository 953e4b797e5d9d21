use Rattle.std.proofs.Common.{◌≡◌, map, take}
use Rattle.route_text.specs.RouteOf.{class_of}
use Rattle.route_text.proofs.class.classes_of.Given as goal

abbrev pub invariant-loop-name : goal.invariant-loop-name
invariant-loop-name l = l.classes ≡ map (class_of l.values) (take l.name-index l.names)

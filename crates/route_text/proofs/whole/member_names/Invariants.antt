use Rattle.std.proofs.Common.{◌≡◌, take}
use Rattle.std.specs.List.{flat_map}
use Rattle.route_text.proofs.whole.member_names.Given as goal

abbrev pub invariant-loop-group : goal.invariant-loop-group
invariant-loop-group l = l.names ≡ flat_map (λ group. group.targets) (take l.group-index l.values.groups)

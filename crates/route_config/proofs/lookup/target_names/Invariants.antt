use Rattle.std.proofs.Common.{◌≡◌, map, take}
use Rattle.route_config.proofs.lookup.target_names.Given as goal

abbrev pub invariant-loop-target : goal.invariant-loop-target
invariant-loop-target l = l.names ≡ map (λ target. target.name) (take l.target-index l.target-items)

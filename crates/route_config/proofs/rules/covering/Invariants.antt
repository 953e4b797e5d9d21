use Rattle.std.proofs.Common.{◌≡◌, map, take}
use Rattle.route_config.specs.Rules.{covers}
use Rattle.route_config.proofs.rules.covering.Given as goal

abbrev pub invariant-loop-rule : goal.invariant-loop-rule
invariant-loop-rule l = l.list ≡ map (covers l.database) (take l.rule-index l.rules)

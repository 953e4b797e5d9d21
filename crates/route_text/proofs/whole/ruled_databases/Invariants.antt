use Rattle.std.proofs.Common.{◌≡◌, take}
use Rattle.std.specs.List.{flat_map}
use Rattle.route_text.proofs.whole.ruled_databases.Given as goal

abbrev pub invariant-loop-rule : goal.invariant-loop-rule
invariant-loop-rule l = l.names ≡ flat_map (λ rule. rule.databases) (take l.rule-index l.values.rules)

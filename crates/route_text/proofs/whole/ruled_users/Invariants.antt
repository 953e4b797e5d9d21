use Rattle.std.proofs.Common.{◌≡◌, map, take}
use Rattle.route_text.proofs.whole.ruled_users.Given as goal

abbrev pub invariant-loop-rule : goal.invariant-loop-rule
invariant-loop-rule l = l.names ≡ map (λ rule. rule.user) (take l.rule-index l.values.rules)

use Rattle.std.proofs.Common.{◌≡◌, ◌++◌, map, take}
use Rattle.route_text.proofs.names.push_names.Given as goal

abbrev pub invariant-loop-thing : goal.invariant-loop-thing
invariant-loop-thing g l = l.names ≡ l.initial.names ++ map g.T.Named.named (take l.thing-index l.things)

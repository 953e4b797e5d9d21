use Rattle.std.proofs.Common.{◌≡◌, take, map}
use Rattle.replay.specs.Classes.{costless}
use Rattle.replay.proofs.classes.no_costs.Given as goal

abbrev pub invariant-loop-class : goal.invariant-loop-class
invariant-loop-class l = l.classes ≡ map costless (take l.class-index l.class-items)

use Rattle.std.proofs.Common.{◌≡◌, ◌++◌, take}
use Rattle.virt_db.proofs.legs.append.Given as goal

abbrev pub invariant-loop-leg : goal.invariant-loop-leg
invariant-loop-leg l = l.legs ≡ l.initial.legs ++ take l.leg-index l.more

use Rattle.std.proofs.Common.{◌≡◌, take, None}
use Rattle.package.specs.steps.Ends.{first_mark}
use Rattle.package.proofs.said.first_mark.Given as goal

abbrev pub invariant-loop-leg : goal.invariant-loop-leg
invariant-loop-leg g l = first_mark (take l.leg-index l.legs) ≡ None

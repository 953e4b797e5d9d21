use Rattle.std.proofs.Common.{◌≡◌, take, map, Ok}
use Rattle.package.specs.steps.Ends.{hits_in}
use Rattle.package.proofs.said.all_hits.Given as goal

abbrev pub invariant-loop-leg : goal.invariant-loop-leg
invariant-loop-leg g l = map (hits_in l.route) (take l.leg-index l.legs) ≡ map (λ x. Ok x) l.hits

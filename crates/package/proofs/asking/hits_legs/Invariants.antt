use Rattle.std.proofs.Common.{◌≡◌, take, map}
use Rattle.package_rules.specs.Asked.{hits_asked}
use Rattle.package.specs.steps.Packages.{begun}
use Rattle.package.proofs.asking.hits_legs.Given as goal

abbrev pub invariant-loop-leg : goal.invariant-loop-leg
invariant-loop-leg g l = l.made.items ≡ map begun (map (hits_asked l.route l.login l.query) (take l.leg-index l.leg-items))

use Rattle.std.proofs.Common.{◌<◌, length, take}
use Rattle.std.specs.List.{AllByRecursion}
use Rattle.package_rules.proofs.members.have_members.Given as goal

abbrev pub invariant-loop-class : goal.invariant-loop-class
invariant-loop-class l = AllByRecursion (λ class. 0 < length class.addresses) (take l.class-index l.class-items)

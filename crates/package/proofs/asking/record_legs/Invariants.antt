use Rattle.std.proofs.Common.{◌≡◌, take, map}
use Rattle.std.specs.Option.{option_copied}
use Rattle.package_rules.specs.Asked.{records_asked}
use Rattle.package.specs.steps.Packages.{begun}
use Rattle.package.proofs.asking.record_legs.Given as goal

abbrev pub invariant-loop-span : goal.invariant-loop-span
invariant-loop-span g l = l.made.items ≡ map begun
    (map (records_asked l.route l.wanted.login.now l.wanted.legs.now l.wanted.query.now (option_copied l.wanted.syntax) (option_copied l.wanted.element))
    (take l.span-index l.span-items))

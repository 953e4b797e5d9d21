use Rattle.std.proofs.Common.{◌≡◌, ◌+◌, ◌++◌, length, take}
use Rattle.package.specs.steps.Packages.{accounts_of}
use Rattle.package.proofs.package.take_over.Given as goal

abbrev pub invariant-loop-place : goal.invariant-loop-place
invariant-loop-place g l =
    (length l.all.items ≡ length l.initial.all.items)
    × (take (l.others + l.place) l.all.items ≡ take l.others l.initial.all.items ++ accounts_of (take l.place l.legs))

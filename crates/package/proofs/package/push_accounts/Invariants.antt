use Rattle.std.proofs.Common.{◌≡◌, ◌++◌, take}
use Rattle.package.specs.steps.Packages.{accounts_of}
use Rattle.package.proofs.package.push_accounts.Given as goal

abbrev pub invariant-loop-leg : goal.invariant-loop-leg
invariant-loop-leg g l = l.accounts ≡ l.initial.accounts ++ accounts_of (take l.leg-index l.legs)

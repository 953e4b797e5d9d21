use Rattle.std.proofs.Common.{◌≡◌, [], take, drop}
use Rattle.route_text.specs.Whole.{again, sameness}
use Rattle.route_text.proofs.names.again.Given as goal

-- what is to be found is found in the names that are left
abbrev pub invariant-loop-place : goal.invariant-loop-place
invariant-loop-place l = again (sameness l.ignore_case) [] l.names ≡ again (sameness l.ignore_case) (take l.place l.names) (drop l.place l.names)

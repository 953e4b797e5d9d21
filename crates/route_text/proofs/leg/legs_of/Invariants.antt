use Rattle.std.proofs.Common.{◌≡◌, ◌++◌, drop}
use Rattle.route_text.specs.RouteOf.{legs_from}
use Rattle.route_text.proofs.leg.legs_of.Given as goal

-- the legs so far, and those of the databases that are left
abbrev pub invariant-loop-place : goal.invariant-loop-place
invariant-loop-place l = l.legs ++ legs_from l.classes l.place (drop l.place l.databases) ≡ legs_from l.classes 0 l.databases

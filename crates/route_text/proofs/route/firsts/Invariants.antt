use Rattle.std.proofs.Common.{◌≡◌, [], ◌++◌, drop}
use Rattle.route_text.specs.RouteOf.{firsts}
use Rattle.route_text.proofs.route.firsts.Given as goal

-- what is found already, and what is still to be found behind it
abbrev pub invariant-loop-name : goal.invariant-loop-name
invariant-loop-name l = l.found ++ firsts l.found (drop l.name-index l.names) ≡ firsts [] l.names

use Rattle.std.proofs.Common.{◌≡◌, ◌≤◌, ◌*◌, ◌++◌, drop, length}
use Rattle.std.specs.List.{AllByRecursion}
use Rattle.route_text.specs.RouteOf.{databases_from}
use Rattle.route_text.proofs.leg.databases_of.Given as goal

-- the databases so far, and those that are left, each of few legs
abbrev pub invariant-loop-database : goal.invariant-loop-database
invariant-loop-database l = record {
  made : l.databases ++ databases_from l.first (drop l.database-index l.values) ≡ databases_from 0 l.values;
  below : l.first ≤ 16 * l.database-index;
  few_legs : AllByRecursion (λ database. length database.legs ≤ 16) (drop l.database-index l.values);
}

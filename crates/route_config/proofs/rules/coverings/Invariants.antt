use Rattle.std.proofs.Common.{◌≡◌, map, take}
use Rattle.route_config.specs.Rules.{covers}
use Rattle.route_config.proofs.rules.coverings.Given as goal

abbrev pub invariant-loop-database : goal.invariant-loop-database
invariant-loop-database l = l.lists ≡ map (λ database. map (covers database.name) l.rules) (take l.database-index l.databases)

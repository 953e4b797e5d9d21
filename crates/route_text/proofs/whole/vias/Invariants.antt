use Rattle.std.proofs.Common.{◌≡◌, map, take}
use Rattle.std.specs.List.{flat_map}
use Rattle.route_text.proofs.whole.vias.Given as goal

abbrev pub invariant-loop-database : goal.invariant-loop-database
invariant-loop-database l = l.names ≡ flat_map (λ database. map (λ leg. leg.via) database.legs) (take l.database-index l.values.databases)

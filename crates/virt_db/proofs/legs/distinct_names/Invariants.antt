use Rattle.std.proofs.Common.{◌≡◌, take}
use Rattle.virt_db.specs.Legs.{distinct}
use Rattle.virt_db.specs.Names.{HasNames}
use Rattle.virt_db.proofs.legs.distinct_names.Given as goal

abbrev pub invariant-loop-name : goal.invariant-loop-name
invariant-loop-name l =
    (l.list ≡ distinct (take l.name-index l.names)) × HasNames l.seen (take l.name-index l.names)

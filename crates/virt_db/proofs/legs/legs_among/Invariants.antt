use Rattle.std.proofs.Common.{◌≡◌, take}
use Rattle.virt_db.specs.Legs.{legs_among}
use Rattle.virt_db.proofs.legs.legs_among.Given as goal

abbrev pub invariant-loop-name : goal.invariant-loop-name
invariant-loop-name l = l.legs ≡ legs_among l.route (take l.name-index l.names)

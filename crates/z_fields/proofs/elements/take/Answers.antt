use Rattle.std.proofs.Common.{Some, None}
use Rattle.z_fields.proofs.TakeLemmas.{taken-some}
use Rattle.z_fields.proofs.elements.take.Goals as goal

pub returns-in-Ok-Some : goal.returns-in-Ok-Some
returns-in-Ok-Some c =
    let met = c.in-Ok-Some in
    taken-some c.args.lent.now c.next_child.new.self met.field-0 (Some met.child) met.field-0-is c.requires met.ensures.next met.ensures.tree

pub returns-in-Ok-None : goal.returns-in-Ok-None
returns-in-Ok-None c =
    let met = c.in-Ok-None in
    taken-some c.args.lent.now c.next_child.new.self met.field-0 None met.field-0-is c.requires met.ensures.next met.ensures.tree

use Rattle.std.proofs.Common.{refl}
use Rattle.z_ber.proofs.ElementReading.{next_deep, next_refused}
use Rattle.z_ber.proofs.LentTreeLemmas.{next_lent, next_shorter, next_fault}
use Rattle.z_ber.proofs.element.Element.next_child.Goals as goal

pub returns-then-self-eq0-clause-next : goal.returns-then-self-eq0-clause-next
returns-then-self-eq0-clause-next c =
    let h = next_deep _ _ c.self.view_is c.if-is_empty.ensures c.if-self-eq0.true in
    (h.0, refl, h.1)

pub returns-in-Err-clause-next : goal.returns-in-Err-clause-next
returns-in-Err-clause-next c =
    let h = next_refused _ _ c.in-Err.fault c.self.view_is c.if-is_empty.ensures c.in-Err.ensures.refused in
    (h.0, refl, h.1)

pub returns-in-Err-clause-tree : goal.returns-in-Err-clause-tree
returns-in-Err-clause-tree c =
    next_fault _ c.in-Err.fault (next_refused _ _ c.in-Err.fault c.self.view_is c.if-is_empty.ensures c.in-Err.ensures.refused)

pub returns-in-Ok-clause-tree : goal.returns-in-Ok-clause-tree
returns-in-Ok-clause-tree c = next_lent _ _ _ c.in-Ok.rest.now c.self.view_is c.in-Ok.ensures.lent

pub returns-in-Ok-clause-shorter : goal.returns-in-Ok-clause-shorter
returns-in-Ok-clause-shorter c = next_shorter _ _ _ c.in-Ok.rest.now c.self.view_is c.in-Ok.ensures.lent

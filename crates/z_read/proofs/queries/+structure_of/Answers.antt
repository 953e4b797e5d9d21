use Rattle.std.proofs.Common.{rules}
use Rattle.z_read.proofs.StructureLemmas.{two_structures, joint_fault, joint_read}
use Rattle.z_read.proofs.queries.+structure_of.Goals as goal

pub returns-in_err-left : goal.returns-in_err-left
returns-in_err-left t c =
    let joint = two_structures _ _ _ _ _ _ _ _ _ _ _ _ _ _ c.in-Some.is c.tag-tag.ensures c.is_structure.ensures
    c.if-not-is_structure.false c.if-not-tag.false c.if-tag-eq-OPERAND.false c.elements-elements.ensures
    c.next-first.ensures.first c.next-first.ensures.others c.next-second.ensures.first c.structure_of-left.ensures
    c.structure_of-right.ensures c.elements-2.ensures c.operator_in-operator.ensures c.both.ensures c.both-2.ensures in
    search (rules, joint_fault, joint)

pub returns : goal.returns
returns t c =
    let joint = two_structures _ _ _ _ _ _ _ _ _ _ _ _ _ _ c.in-Some.is c.tag-tag.ensures c.is_structure.ensures
    c.if-not-is_structure.false c.if-not-tag.false c.if-tag-eq-OPERAND.false c.elements-elements.ensures
    c.next-first.ensures.first c.next-first.ensures.others c.next-second.ensures.first c.structure_of-left.ensures
    c.structure_of-right.ensures c.elements-2.ensures c.operator_in-operator.ensures c.both.ensures c.both-2.ensures in
    search (rules, joint_read, joint)

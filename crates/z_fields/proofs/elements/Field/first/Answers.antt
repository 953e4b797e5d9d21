use Rattle.std.proofs.Common.{sym}
use Rattle.z_fields.proofs.TakeLemmas.{first_in, never_refused, none_first, some_are}
use Rattle.z_fields.proofs.elements.Field.first.Goals as goal

pub returns-then-is_empty : goal.returns-then-is_empty
returns-then-is_empty c = none_first c.args.octets.now (sym c.if-is_empty.ensures)

pub invariant_of-result : goal.invariant_of-result
invariant_of-result c =
    (first_in c.args.octets.now c.in-Ok.lent (some_are c.args.octets.now (sym c.if-is_empty.ensures)) c.requires.whole c.in-Ok.ensures.first c.in-Ok.ensures.tree).whole

pub unreachable-requires : goal.unreachable-requires
unreachable-requires c =
    never_refused c.args.octets.now c.in-Err.field-0 (some_are c.args.octets.now (sym c.if-is_empty.ensures)) c.requires.whole c.in-Err.ensures.tree

pub returns : goal.returns
returns c =
    (first_in c.args.octets.now c.in-Ok.lent (some_are c.args.octets.now (sym c.if-is_empty.ensures)) c.requires.whole c.in-Ok.ensures.first c.in-Ok.ensures.tree).first

use Rattle.std.proofs.Common.{inl, inr}
use Rattle.z_ber.proofs.PlaceLemmas.{left_over, unit_lent}
use Rattle.z_ber.proofs.element.Element.of_unit.Goals as goal

pub returns-in-Err : goal.returns-in-Err
returns-in-Err c = inr (c.if-octets-gt-FRAME_MAX.false, inl c.in-Err.ensures.place)

pub returns-then-size-octets : goal.returns-then-size-octets
returns-then-size-octets c =
    left_over c.in-Ok.size c.args.octets.now c.if-octets-gt-FRAME_MAX.false c.if-size-octets.true c.in-Ok.ensures.element

pub returns : goal.returns
returns c =
    unit_lent c.in-Ok.size c.args.octets.now _ c.if-octets-gt-FRAME_MAX.false c.if-size-octets.false c.in-Ok.ensures.element c.in-Ok-first.ensures.tree

use Rattle.std.proofs.Common.{◌∙◌, ℕ, sym, ap, Some}
use Rattle.package.proofs.SaidLemmas.{mark_here, mark_later}
use Rattle.package.proofs.said.first_mark.Goals as goal

pub returns-in-Some : goal.returns-in-Some
returns-in-Some g c =
    ap (λ (place : ℕ). Some (c.in-Some.mark, place)) c.place.ensures
    ∙ sym (mark_here c.args.legs.now c.loop-leg.leg-index c.leg-item.result c.leg-item.result c.in-Some.mark c.loop-leg-test.true
    (sym c.leg-item.is) c.loop-leg.invariant (sym c.mark_of.ensures ∙ c.in-Some.is))

pub loop-leg-preserved : goal.loop-leg-preserved
loop-leg-preserved g c =
    mark_later c.args.legs.now c.loop-leg.leg-index c.leg-item.result c.leg-item.result c.loop-leg-test.true
    (sym c.leg-item.is) c.loop-leg.invariant (sym c.mark_of.ensures ∙ c.in_default.is)

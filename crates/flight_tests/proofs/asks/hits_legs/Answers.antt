use Rattle.std.proofs.Common.{[], ◌∷◌, All, subst, sym}
use Rattle.std.proofs.lemmas.List.Elements.{All-append, All-cons, All-nil}
use Rattle.package.specs.leg.Turns.{IsLegOf}
use Rattle.flight_tests.proofs.asks.hits_legs.Goals as goal

-- one more leg of the route behind those before
pub loop-place-preserved : goal.loop-place-preserved
loop-place-preserved g c most =
    let P = IsLegOf g.W.World g.S.Sitting c.args.route.now most in
    subst (All P) (sym c.in_ok-push.ensures.ok)
    (All-append P c.loop-place.legs (c.in_ok-hits_leg.field-0 ∷ []) (c.loop-place.invariant most)
    (All-cons P c.in_ok-hits_leg.field-0 [] (c.in_ok-hits_leg.ensures most) (All-nil P)))

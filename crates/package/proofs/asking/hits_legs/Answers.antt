use Rattle.std.proofs.Common.{◌∙◌, ◌<◌, ◌++◌, ℕ, [], ◌∷◌, length, ap, refl}
use Rattle.package_rules.specs.Asked.{hits_asked}
use Rattle.package.specs.steps.Packages.{begun}
use Rattle.package.proofs.MadeLemmas.{item_holds, made_more}
use Rattle.package.proofs.asking.hits_legs.Goals as goal

pub hits_leg-requires-clause-there : goal.hits_leg-requires-clause-there
hits_leg-requires-clause-there g c =
    item_holds (λ (leg : ℕ). leg < length c.args.route.now.legs) c.args.legs.now c.as_slice-leg-items.result.now c.loop-leg.leg-index 0
    c.requires.there c.as_slice-leg-items.ensures c.loop-leg-test.true

pub loop-leg-preserved : goal.loop-leg-preserved
loop-leg-preserved g c =
    made_more begun (hits_asked c.args.route.now c.args.login.now c.args.query.now) c.as_slice-leg-items.result.now c.loop-leg.leg-index 0 _
    c.loop-leg.made.items c.push.new.self.items c.loop-leg-test.true refl c.loop-leg.invariant
    (c.in_ok-push.ensures.items ∙ ap (λ leg. c.loop-leg.made.items ++ leg ∷ []) c.in_ok-hits_leg.ensures)

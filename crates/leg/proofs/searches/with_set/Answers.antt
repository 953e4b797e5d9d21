use Rattle.std.proofs.Common.{inr, refl}
use Rattle.leg.specs.Kept.{StandsAt}
use Rattle.leg.specs.Rules.{out_of_range}
use Rattle.leg.specs.Terms.{lent_terms}
use Rattle.leg.specs.declared.answers.LegAnswer.TheVariants.{Broken}
use Rattle.leg.specs.declared.phases.Phase.TheVariants.{Returning, Spoiled}
use Rattle.leg.proofs.Own.{goes_holds, own_right, own_count}
use Rattle.leg.proofs.searches.with_set.Goals as goal

pub returns-in-Hits-clause-session : goal.returns-in-Hits-clause-session
returns-in-Hits-clause-session g c =
    let own = rw c.in-Hits.is at c.requires.own in
    rw c.in-Hits.is (c.requires.held, own_count g.W.World g.S.Sitting c.args.held.parts c.args.slot c.in-Hits.key c.args.hits c.requires.held.kept own)

pub returns-then-hits-first-clause-stands : goal.returns-then-hits-first-clause-stands
returns-then-hits-first-clause-stands g c = λ most account.
    let held = c.args.held in
    let own = rw c.in-Records.is at c.requires.own in
    let items = rw c.in-Records.is at c.requires.items in
    goes_holds (λ p. StandsAt g.W.World g.S.Sitting (lent_terms c.args.terms.now) most c.args.task.now p account)
    (Returning held (Broken c.args.items out_of_range)) (Spoiled held.seat) c.too_few.result.0 c.too_few.result.1 c.too_few.ensures.goes
    (rw c.in-Records.is (c.requires.among, (λ told. (items.1 told, inr (record { hits = c.args.hits; found = own_right g.W.World g.S.Sitting held.parts c.args.slot c.in-Records.key c.args.hits c.requires.held.kept own told; fewer = c.if-hits-first.true; says = refl }))), tt)) tt

use Rattle.std.proofs.Common.{◌≡◌, ◌∙◌, ◌<◌, ℕ, List, length, map, take, get_or, ap, sym, refl, arith, option_map}
use Rattle.std.proofs.Math.Seq.{take-length}
use Rattle.std.proofs.lemmas.List.{get_or-set_other, length-set}
use Rattle.leg.specs.LegView.{LegView}
use Rattle.package.specs.steps.Ends.{gave_up, lost_seats}
use Rattle.package.proofs.GivenLemmas.{given_is, given_more, no_seats, seats_more}
use Rattle.package.proofs.package.give_up_each.Goals as goal

pub loop-leg-init : goal.loop-leg-init
loop-leg-init g c = (refl, λ place d above. refl, refl, no_seats (g.D.Door.pool c.args.door.now), refl)

pub loop-leg-preserved : goal.loop-leg-preserved
loop-leg-preserved g c =
    let legs = c.args.legs.now in
    let items = c.loop-leg.leg-items in
    let i = c.loop-leg.leg-index in
    let leg = c.leg-item.result in
    let old : LegView g.row.S.Denot = get_or items i leg in
    let new = c.give_up.new.self in
    let there : i < length items = omega (arith, c.loop-leg.invariant.0, c.loop-leg-test.true) in
    let is : get_or legs i leg ≡ old = sym (c.loop-leg.invariant.1 i leg (omega arith)) in (
      length-set items i new ∙ c.loop-leg.invariant.0,
      λ place d above. get_or-set_other items i place new d (omega (arith, above)) ∙ c.loop-leg.invariant.1 place d (omega (arith, above)),
      given_more legs items i leg old new c.loop-leg-test.true there is
          (given_is old new c.give_up.ensures.phase c.give_up.ensures.task c.give_up.ensures.leg c.give_up.ensures.login c.give_up.ensures.account)
          c.loop-leg.invariant.2,
      seats_more legs i leg old (g.D.Door.pool c.args.door.now) (g.D.Door.pool c.loop-leg.door) (g.D.Door.pool c.give_up.new.door)
          c.loop-leg-test.true is c.loop-leg.invariant.3 c.give_up.ensures.pool,
      c.give_up.ensures.counts ∙ c.loop-leg.invariant.4,
    )

pub returns-clause-legs : goal.returns-clause-legs
returns-clause-legs g c =
    let legs = c.args.legs.now in
    let items = c.loop-leg.leg-items in
    let end : c.loop-leg.leg-index ≡ length legs = omega (arith, c.loop-leg-test.false, c.loop-leg.auto.leg-index-end) in
    sym (ap (λ (n : ℕ). take n items) (end ∙ sym c.loop-leg.invariant.0) ∙ take-length items) ∙ c.loop-leg.invariant.2
    ∙ ap (map gave_up) (ap (λ (n : ℕ). take n legs) end ∙ take-length legs)

pub returns-clause-pool : goal.returns-clause-pool
returns-clause-pool g c =
    let legs = c.args.legs.now in
    let end : c.loop-leg.leg-index ≡ length legs = omega (arith, c.loop-leg-test.false, c.loop-leg.auto.leg-index-end) in
    c.loop-leg.invariant.3 ∙ ap (λ (ls : List (LegView g.row.S.Denot)). option_map (lost_seats ls) (g.D.Door.pool c.args.door.now))
    (ap (λ (n : ℕ). take n legs) end ∙ take-length legs)

pub returns-clause-counts : goal.returns-clause-counts
returns-clause-counts g c = c.loop-leg.invariant.4

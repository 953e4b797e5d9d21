use Rattle.leg.specs.Tasks.{want_of}
use Rattle.leg.specs.Terms.{terms_of}
use Rattle.leg.proofs.AccountSteps.{may_count, account_fits, most_stays}
use Rattle.leg.proofs.turns.Leg.turn.Goals as goal

pub turn_phase-phase-requires-clause-counts : goal.turn_phase-phase-requires-clause-counts
turn_phase-phase-requires-clause-counts g c =
    let k = c.self.invariant.kept in
    let l = c.terms_of-terms.ensures in
    let own = c.self.inside in
    let of = rw (← c.self.view_is) at c.requires.of in
    let small = may_count (want_of own.task) (terms_of c.args.route.now own.login own.leg).pool own.phase own.account l.pool k.account of.within in
    rw (l.terms, c.replace-phase.ensures.value) (record { account = k.account; within = of.within; pool = l.pool; small = small })

pub returns-clause-bounds : goal.returns-clause-bounds
returns-clause-bounds g c =
    account_fits (want_of c.self.inside.task) c.turn_phase-phase.result.0 c.turn_phase-phase.new.account c.turn_phase-phase.ensures.step.holds.kept.account

pub returns-clause-most : goal.returns-clause-most
returns-clause-most g c =
    let law = c.turn_phase-phase.ensures.step.law in
    rw law.door_counts (most_stays (want_of c.self.inside.task) law.deed (g.D.Door.counts c.args.door.now))

use Rattle.std.proofs.Common.{Bool, ◌∙◌, ap}
use Rattle.z_types.specs.Counts.{one_more}
use Rattle.pool_sets.specs.Counts.{DoorCounts}
use Rattle.pool_tests.proofs.trials.take_for.Goals as goal

pub returns-clause-reused : goal.returns-clause-reused
returns-clause-reused g c = λ number given.
    let trial = c.args.trial.now in
    ap (λ (n : DoorCounts). n.booked) c.take.ensures.counts ∙ ap (λ (b : Bool). one_more b (g.P.Door.counts trial.pool).booked) (c.what_was_given.ensures.reused trial.key number given)

pub returns-clause-idle : goal.returns-clause-idle
returns-clause-idle g c = λ number given.
    let trial = c.args.trial.now in
    ap (λ (n : DoorCounts). n.booked) c.take.ensures.counts ∙ ap (λ (b : Bool). one_more b (g.P.Door.counts trial.pool).booked) (c.what_was_given.ensures.idle trial.key number given)

use Rattle.leg.specs.Tasks.{want_of}
use Rattle.leg.proofs.AccountSteps.{account_fits}
use Rattle.leg.proofs.turns.Leg.answer.Goals as goal

pub returns-clause-bounds : goal.returns-clause-bounds
returns-clause-bounds g c =
    account_fits (want_of c.self.inside.task) c.self.inside.phase c.self.inside.account c.self.invariant.kept.account

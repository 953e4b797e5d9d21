use Rattle.leg.specs.Tasks.{want_of}
use Rattle.leg.proofs.AccountSteps.{given_up_from, account_fits}
use Rattle.leg.proofs.turns.Leg.give_up.Goals as goal

pub invariant_of-self : goal.invariant_of-self
invariant_of-self g c =
    let k = c.self.invariant.kept in
    rw c.replace.ensures.after
    (record {
      login_is = c.self.invariant.login_is;
      kept = record { may = k.may; session = tt; account = given_up_from (want_of c.self.inside.task) c.self.inside.phase c.self.inside.account k.account };
    })

pub returns-clause-bounds : goal.returns-clause-bounds
returns-clause-bounds g c = account_fits (want_of c.self.inside.task) c.self.inside.phase c.self.inside.account c.self.invariant.kept.account

use Rattle.std.proofs.Common.{◌≡◌, false}
use Rattle.leg.specs.Phases.{is_done}
use Rattle.package.proofs.DoneLemmas.{is_not_done}
use Rattle.package.proofs.turning.turn_one.Goals as goal

pub returns-clause-turned : goal.returns-clause-turned
returns-clause-turned g c =
    let not_done : is_done c.args.leg.now.phase ≡ false = is_not_done c.args.leg.now.phase c.if-is_done.ensures.1 in
    rw not_done (
      c.turn.result,
      c.and.ensures,
      record {
        leg = c.turn.ensures.leg;
        login = c.turn.ensures.login;
        task = c.turn.ensures.task;
        law = c.turn.ensures.law;
      },
    )

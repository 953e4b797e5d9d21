use Rattle.std.proofs.Common.{true, false, is_some, arith, refl}
use Rattle.leg.specs.Accounts.{no_rises}
use Rattle.leg.specs.Deeds.{redialled}
use Rattle.leg.specs.Tasks.{want_of}
use Rattle.leg.specs.declared.phases.Phase.TheVariants.{Dialling, Redialling}
use Rattle.leg.proofs.AccountSteps.{account_goes, redialled_enough, ahead_redial, ahead_dial, within_on, looks_stay}
use Rattle.leg.proofs.doors.redial.Goals as goal

pub returns : goal.returns
returns g c = record {
  step = λ now exact backend.
      let e = rw c.none-rises.ensures at c.count.ensures in
      let l = c.redial-member.ensures in
      let rises = record no_rises { opens = true } in
      let wanted = is_some (want_of c.args.task.now) in
      record {
        law = record {
          deed = redialled c.redial-member.result;
          due = l.place;
          goes = (rw l.seat refl, refl);
          account = e;
          looks = looks_stay c.args.terms.now.class rises false c.args.account.now c.count.new.self e;
          pool = l.plain;
          door_counts = l.counts;
          backend_moves = record { counts = refl; happened = refl };
          links = tt;
        };
        done = refl;
        holds = record {
          kept = record {
            may = c.requires.kept.may;
            session = tt;
            account = account_goes (ahead_redial wanted) (ahead_dial wanted) 0 0 c.args.terms.now.class rises false 0 c.args.account.now c.count.new.self e (redialled_enough wanted) (omega arith) c.requires.kept.account;
          };
          stands = l.place;
          within = within_on {S = g.row.S.Denot} c.args.terms.now.pool (Redialling c.args.seat) (Dialling c.redial-member.new.seat c.redial-member.result) c.args.terms.now.class rises false 0 c.args.account.now c.count.new.self e refl refl (omega arith) c.requires.counts.within;
        };
      };
}

use Rattle.std.proofs.Common.{false, is_some, refl, arith}
use Rattle.leg.specs.Accounts.{no_rises}
use Rattle.leg.specs.Deeds.{opened, no_memory, rises_of}
use Rattle.leg.specs.Tasks.{want_of}
use Rattle.leg.specs.declared.phases.Phase.TheVariants.{Dialling, Spoiled}
use Rattle.leg.proofs.AccountSteps.{account_goes, within_on, ahead_dial, ahead_spoiled, dial_spoil_enough, looks_stay}
use Rattle.leg.proofs.opens.dial.Goals as goal

pub returns-in_default : goal.returns-in_default
returns-in_default g c = record {
  step = λ now door.
      let e = rw c.none.ensures at c.count.ensures in
      let wanted = is_some (want_of c.args.task.now) in
      let terms = c.args.terms.now in
      record {
        law = record {
          deed = no_memory;
          due = tt;
          goes = (refl, refl);
          account = e;
          looks = looks_stay terms.class no_rises false c.args.account.now c.count.new.self e;
          pool = refl;
          door_counts = refl;
          backend_moves = record { counts = refl; happened = refl };
          links = tt;
        };
        done = refl;
        holds = record {
          kept = record {
            may = c.requires.kept.may;
            session = tt;
            account = account_goes (ahead_dial wanted) ahead_spoiled 0 0 terms.class no_rises false 0 c.args.account.now c.count.new.self e (dial_spoil_enough wanted) (omega arith) c.requires.kept.account;
          };
          stands = tt;
          within = within_on {S = g.row.S.Denot} terms.pool (Dialling c.args.seat c.args.member) (Spoiled c.args.seat) terms.class no_rises false 0 c.args.account.now c.count.new.self e refl refl (omega arith) c.requires.counts.within;
        };
      };
}

pub returns : goal.returns
returns g c = record {
  step = λ now door.
      let f = c.after_open.ensures.follows now door.counts.most in
      let l = c.open_-opening.ensures in
      let terms = c.args.terms.now in
      record {
        law = record {
          deed = opened c.open_-opening.result;
          due = rw c.in-Ok.ensures.address at l.session;
          goes = f.goes;
          account = f.account;
          looks = looks_stay terms.class (rises_of (want_of c.args.task.now) (opened c.open_-opening.result)) false c.args.account.now c.after_open.new.account f.account;
          pool = refl;
          door_counts = refl;
          backend_moves = record { counts = l.counts; happened = l.happened };
          links = rw c.in-Ok.ensures.address at l.steady;
        };
        done = f.done;
        holds = f.holds;
      };
}

use Rattle.std.proofs.Common.{[], false, true, is_some, ap, arith, refl}
use Rattle.z_types.specs.declared.marks.Mark.TheVariants.{Full}
use Rattle.leg.specs.declared.accounts.Account.{Account}
use Rattle.leg.specs.declared.answers.LegAnswer.TheVariants.{Marked}
use Rattle.leg.specs.Accounts.{no_rises}
use Rattle.leg.specs.Kept.{ahead_with, nothing_ahead, one_if}
use Rattle.leg.specs.Phases.{hold}
use Rattle.leg.specs.Rules.{with_set}
use Rattle.leg.specs.Tasks.{want_of}
use Rattle.leg.specs.declared.phases.Phase.TheVariants.{Begin, Ready, Dialling, Spoiled, Done}
use Rattle.leg.proofs.AccountSteps.{account_goes, ahead_first, ahead_dial, fresh_enough, dial_enough, within_first, full_once, first_again}
use Rattle.leg.proofs.Opened.{no_items}
use Rattle.leg.proofs.Own.{goes_holds}
use Rattle.leg.proofs.Settled.{IsKeptIn, set_account, spoiled_account}
use Rattle.leg.proofs.doors.after_take.Goals as goal

pub returns-in-Reuse : goal.returns-in-Reuse
returns-in-Reuse g c = record {
  follows = λ most now fits.
      let e = rw c.rises_of_taken.ensures at c.count.ensures in
      let counted = rw c.in-Reuse.is at e in
      let r = c.in-Reuse in
      let goes = rw c.new.ensures at c.with_set.ensures.goes in
      let answer = c.with_set.result.1 in
      let new = c.with_set.result.0 in
      let held = hold r.seat r.parts true in
      let want = want_of c.args.task.now in
      let a = c.args.account.now in
      let b = c.count.new.self in
      let wanted = with_set c.args.task.now held [] r.slot r.hits in
      let k = account_goes ahead_first (ahead_with 0 true) 0 0 c.args.terms.now.class no_rises false 0 a b counted refl (omega arith) c.requires.kept.account in
      record {
        goes = rw r.is goes;
        account = e;
        done = c.with_set.ensures.done;
        holds = record {
          kept = record {
            may = c.requires.kept.may;
            session = c.with_set.ensures.session;
            account = goes_holds (IsKeptIn want b) wanted (Spoiled r.seat) new answer goes
                (set_account want b c.args.task.now held [] r.slot r.hits k) (spoiled_account want b held k);
          };
          stands = c.with_set.ensures.stands most b;
          within = within_first c.args.terms.now.pool new c.args.terms.now.class no_rises false a b counted refl c.requires.counts.pool c.requires.first;
        };
      };
}

pub returns-in-Fresh : goal.returns-in-Fresh
returns-in-Fresh g c = record {
  follows = λ most now fits.
      let e = rw c.rises_of_taken.ensures at c.count.ensures in
      let r = c.in-Fresh in
      let counted = rw r.is at e in
      let given = rw r.is at fits in
      let wanted = is_some (want_of c.args.task.now) in
      let rises = record no_rises { booked = wanted } in
      let held = hold r.seat r.parts true in
      record {
        goes = rw (r.is, c.new-items.ensures) (refl, refl);
        account = e;
        done = refl;
        holds = rw c.new-items.ensures (record {
          kept = record {
            may = c.requires.kept.may;
            session = (record { is_held = record { waits = given.0.rests; kept = given.0.kept }; lacks = given.1 }, no_items g.W.World g.S.Sitting c.args.task.now held c.requires.kept.may);
            account = account_goes ahead_first (ahead_with (one_if wanted) true) 0 0 c.args.terms.now.class rises false 0 c.args.account.now c.count.new.self counted (fresh_enough wanted) (omega arith) c.requires.kept.account;
          };
          stands = given.0.among;
          within = within_first {S = g.row.S.Denot} c.args.terms.now.pool (Ready held []) c.args.terms.now.class rises false c.args.account.now c.count.new.self counted refl c.requires.counts.pool c.requires.first;
        });
      };
}

pub returns-in-Dial : goal.returns-in-Dial
returns-in-Dial g c = record {
  follows = λ most now fits.
      let e = rw c.rises_of_taken.ensures at c.count.ensures in
      let r = c.in-Dial in
      let counted = rw r.is at e in
      let given = rw r.is at fits in
      let wanted = is_some (want_of c.args.task.now) in
      let rises = record no_rises { opens = true; booked = wanted } in
      record {
        goes = rw r.is (refl, refl);
        account = e;
        done = refl;
        holds = record {
          kept = record {
            may = c.requires.kept.may;
            session = tt;
            account = account_goes ahead_first (ahead_dial wanted) 0 0 c.args.terms.now.class rises false 0 c.args.account.now c.count.new.self counted (dial_enough wanted) (omega arith) c.requires.kept.account;
          };
          stands = given.1;
          within = within_first {S = g.row.S.Denot} c.args.terms.now.pool (Dialling r.seat r.member) c.args.terms.now.class rises false c.args.account.now c.count.new.self counted refl c.requires.counts.pool c.requires.first;
        };
      };
}

pub returns-in-Full : goal.returns-in-Full
returns-in-Full g c = record {
  follows = λ most now fits.
      let e = rw c.rises_of_taken.ensures at c.count.ensures in
      let r = c.in-Full in
      let counted = rw r.is at e in
      let rises = record no_rises { fulls = true } in
      record {
        goes = rw r.is (refl, refl);
        account = e;
        done = refl;
        holds = record {
          kept = record {
            may = c.requires.kept.may;
            session = tt;
            account = account_goes ahead_first nothing_ahead 0 0 c.args.terms.now.class rises false 0 c.args.account.now c.count.new.self counted refl (omega arith) c.requires.kept.account;
          };
          stands = (tt, ((rw r.is at fits), full_once c.args.terms.now.class rises c.args.account.now c.count.new.self counted), ap (λ (x : Account). x.class) counted);
          within = within_first {S = g.row.S.Denot} c.args.terms.now.pool (Done (Marked (Full r.open))) c.args.terms.now.class rises false c.args.account.now c.count.new.self counted refl c.requires.counts.pool c.requires.first;
        };
      };
}

pub returns-in-Memory : goal.returns-in-Memory
returns-in-Memory g c = record {
  follows = λ most now fits.
      let e = rw c.rises_of_taken.ensures at c.count.ensures in
      let counted = rw c.in-Memory.is at e in
      let b = c.count.new.self in
      record {
        goes = rw c.in-Memory.is (refl, refl);
        account = e;
        done = refl;
        holds = record {
          kept = record {
            may = c.requires.kept.may;
            session = tt;
            account = account_goes ahead_first ahead_first 0 0 c.args.terms.now.class no_rises false 0 c.args.account.now b counted refl (omega arith) c.requires.kept.account;
          };
          stands = first_again c.args.terms.now.class c.args.account.now b counted c.requires.first;
          within = within_first {S = g.row.S.Denot} c.args.terms.now.pool Begin c.args.terms.now.class no_rises false c.args.account.now b counted refl c.requires.counts.pool c.requires.first;
        };
      };
}

use Rattle.std.proofs.Common.{◌≤◌, true, false, is_some, refl, sym, subst, arith}
use Rattle.leg.specs.declared.accounts.Account.{Account}
use Rattle.leg.specs.Accounts.{no_rises}
use Rattle.leg.specs.Kept.{ahead_with, nothing_ahead, one_if}
use Rattle.leg.specs.Tasks.{want_of}
use Rattle.leg.specs.declared.phases.Phase.TheVariants.{Dialling, Spoiled}
use Rattle.leg.proofs.AccountSteps.{account_goes, within_on, ahead_dial, ahead_spoiled, dialled_enough, undialled_enough, dial_spoil_enough}
use Rattle.leg.proofs.Ends.{spent_once}
use Rattle.leg.proofs.Opened.{named_among, empty_kept, empty_lacks}
use Rattle.leg.proofs.opens.after_open.Goals as goal

pub returns-in-Session : goal.returns-in-Session
returns-in-Session g c = record {
  follows = λ now most.
      let e = rw (c.rises_of_opening.ensures (want_of c.args.task.now)) at c.count.ensures in
      let counted = rw c.in-Session.is at e in
      let made = rw c.in-Session.is at c.requires.opened in
      let want = want_of c.args.task.now in
      let terms = c.args.terms.now in
      record {
        goes = rw (c.in-Session.is, c.requires.table, c.requires.address) (refl, refl);
        account = e;
        done = refl;
        holds = record {
          kept = record {
            may = c.requires.kept.may;
            session = record {
              is_held = record { waits = made.pending; kept = empty_kept g.W.World g.S.Sitting c.in-Session.session c.args.table c.args.address terms.pool.sets_max c.requires.table made.same_address };
              lacks = empty_lacks want c.args.table terms.pool.sets_max c.requires.table;
            };
            account = account_goes (ahead_dial (is_some want)) (ahead_with (one_if (is_some want)) false) 0 0 terms.class (record no_rises { dials = true }) false 0 c.args.account.now c.count.new.self counted (dialled_enough (is_some want)) (omega arith) c.requires.kept.account;
          };
          stands = named_among terms.login.now terms.at.now c.args.member c.args.address c.requires.within c.requires.address;
          within = within_on {S = g.row.S.Denot} terms.pool (Dialling c.args.seat c.args.member) _ terms.class (record no_rises { dials = true }) false 0 c.args.account.now c.count.new.self counted refl refl (omega arith) c.requires.counts.within;
        };
      };
}

pub returns-in-Failed : goal.returns-in-Failed
returns-in-Failed g c = record {
  follows = λ now most.
      let e = rw (c.rises_of_opening.ensures (want_of c.args.task.now)) at c.count.ensures in
      let counted = rw c.in-Failed.is at e in
      let want = want_of c.args.task.now in
      let terms = c.args.terms.now in
      let rises = record no_rises { dials = c.in-Failed.linked; faults = true } in
      record {
        goes = rw c.in-Failed.is (refl, refl);
        account = e;
        done = refl;
        holds = record {
          kept = record {
            may = c.requires.kept.may;
            session = tt;
            account = account_goes (ahead_dial (is_some want)) nothing_ahead 0 0 terms.class rises false 0 c.args.account.now c.count.new.self counted (undialled_enough (is_some want) c.in-Failed.linked) (omega arith) c.requires.kept.account;
          };
          stands = (tt, subst (λ (x : Account). 1 ≤ x.spent) (sym counted) (spent_once c.args.account.now.spent));
          within = within_on {S = g.row.S.Denot} terms.pool (Dialling c.args.seat c.args.member) _ terms.class rises false 0 c.args.account.now c.count.new.self counted refl refl (omega arith) c.requires.counts.within;
        };
      };
}

pub returns-in-Memory : goal.returns-in-Memory
returns-in-Memory g c = record {
  follows = λ now most.
      let e = rw (c.rises_of_opening.ensures (want_of c.args.task.now)) at c.count.ensures in
      let counted = rw c.in-Memory.is at e in
      let want = want_of c.args.task.now in
      let terms = c.args.terms.now in
      record {
        goes = rw c.in-Memory.is (refl, refl);
        account = e;
        done = refl;
        holds = record {
          kept = record {
            may = c.requires.kept.may;
            session = tt;
            account = account_goes (ahead_dial (is_some want)) ahead_spoiled 0 0 terms.class no_rises false 0 c.args.account.now c.count.new.self counted (dial_spoil_enough (is_some want)) (omega arith) c.requires.kept.account;
          };
          stands = tt;
          within = within_on {S = g.row.S.Denot} terms.pool (Dialling c.args.seat c.args.member) (Spoiled c.args.seat) terms.class no_rises false 0 c.args.account.now c.count.new.self counted refl refl (omega arith) c.requires.counts.within;
        };
      };
}

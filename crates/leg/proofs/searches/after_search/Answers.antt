use Rattle.std.proofs.Common.{◌+◌, false, arith, refl}
use Rattle.leg.specs.Accounts.{no_rises}
use Rattle.leg.specs.Kept.{ahead_with, nothing_ahead}
use Rattle.leg.specs.Phases.{hold}
use Rattle.leg.specs.Rules.{with_set, recorded}
use Rattle.leg.specs.Tasks.{want_of}
use Rattle.leg.specs.Terms.{lent_terms}
use Rattle.leg.specs.declared.answers.LegAnswer.TheVariants.{Refused}
use Rattle.leg.specs.declared.phases.Phase.TheVariants.{Searching, Returning, Spoiled}
use Rattle.leg.proofs.AccountSteps.{account_goes, reply_enough, end_enough, within_on}
use Rattle.leg.proofs.Ends.{fault_holds, fault_not_done, silent_holds, silent_is, spoiled_holds, again_is, wait_account, wait_within}
use Rattle.leg.proofs.Fetched.{unfound_right}
use Rattle.leg.proofs.Own.{goes_holds}
use Rattle.leg.proofs.Settled.{IsKeptIn, recorded_account, spoiled_account}
use Rattle.leg.proofs.searches.after_search.Goals as goal

pub returns-in-Memory : goal.returns-in-Memory
returns-in-Memory g c = record {
  follows = λ most.
      let e = c.count_look-looks.ensures.account in
      let counted = rw c.in-Memory.is at e in
      let k = c.requires.counts in
      record {
        goes = rw c.in-Memory.is (refl, refl);
        account = e;
        done = refl;
        holds = spoiled_holds g.W.World g.S.Sitting (lent_terms c.args.terms.now) c.args.task.now most (Searching c.args.held c.args.items c.args.slot c.args.looks) c.args.held.seat false c.args.held.given c.args.looks c.args.account.now c.count_look-looks.new.account counted refl c.requires.may k.account k.within;
      };
}

pub returns-in-Failed : goal.returns-in-Failed
returns-in-Failed g c = record {
  follows = λ most.
      let e = c.count_look-looks.ensures.account in
      let counted = rw c.in-Failed.is at e in
      let k = c.requires.counts in
      record {
        goes = rw c.in-Failed.is (c.after_fault.ensures, refl);
        account = e;
        done = rw c.after_fault.ensures (fault_not_done g.W.World g.S.Sitting (lent_terms c.args.terms.now) c.args.task.now c.args.held);
        holds = rw c.after_fault.ensures (fault_holds g.W.World g.S.Sitting (lent_terms c.args.terms.now) c.args.task.now most (Searching c.args.held c.args.items c.args.slot c.args.looks) c.args.held false c.args.looks 0 c.args.account.now c.count_look-looks.new.account counted refl (omega arith) c.requires.may k.account k.within);
      };
}

pub returns-then-terms-looks : goal.returns-then-terms-looks
returns-then-terms-looks g c = record {
  follows = λ most.
      let e = c.count_look-looks.ensures.account in
      let counted = rw c.in-NotYet.is at e in
      let looks = rw c.in-NotYet.is at c.count_look-looks.ensures.looks in
      let enough = rw looks at c.if-terms-looks.true in
      let k = c.requires.counts in
      record {
        goes = rw (c.silent.ensures, c.in-NotYet.is) (silent_is _ _ c.args.held _ enough, refl);
        account = e;
        done = rw c.silent.ensures refl;
        holds = rw c.silent.ensures (silent_holds g.W.World g.S.Sitting (lent_terms c.args.terms.now) c.args.task.now most (Searching c.args.held c.args.items c.args.slot c.args.looks) c.args.held.seat false c.args.held.given c.args.looks c.args.account.now c.count_look-looks.new.account counted refl enough c.requires.may k.account k.within);
      };
}

pub returns-else-terms-looks : goal.returns-else-terms-looks
returns-else-terms-looks g c = record {
  follows = λ most.
      let e = c.count_look-looks.ensures.account in
      let counted = rw c.in-NotYet.is at e in
      let looks = rw c.in-NotYet.is at c.count_look-looks.ensures.looks in
      let more = rw looks at c.if-terms-looks.false in
      let heard = rw c.in-NotYet.is at c.requires.heard in
      let k = c.requires.counts in
      record {
        goes = rw (c.in-NotYet.is, looks) (again_is _ _ c.args.held _ more, refl);
        account = e;
        done = refl;
        holds = rw looks (record {
          kept = record {
            may = c.requires.may;
            session = (heard, c.requires.items);
            account = wait_account false c.args.held.given c.args.looks c.args.terms.now.class c.args.account.now c.count_look-looks.new.account counted k.account;
          };
          stands = c.requires.among;
          within = wait_within {S = g.row.S.Denot} c.args.terms.now.pool (Searching c.args.held c.args.items c.args.slot c.args.looks) (Searching c.args.held c.args.items c.args.slot (c.args.looks + 1)) c.args.terms.now.class c.args.held.given c.args.looks c.args.account.now c.count_look-looks.new.account counted refl refl k.account.most_looks more k.within;
        });
      };
}

pub returns-in-Hits : goal.returns-in-Hits
returns-in-Hits g c = record {
  follows = λ most.
      let e = c.count_look-looks.ensures.account in
      let counted = rw c.in-Hits.is at e in
      let goes = c.found.ensures.goes in
      let answer = c.found.result.1 in
      let new = c.found.result.0 in
      let held = hold c.args.held.seat c.args.held.parts false in
      let task = c.args.task.now in
      let want = want_of task in
      let b = c.count_look-looks.new.account in
      let wanted = with_set task (recorded want c.args.slot c.in-Hits.hits c.args.now held) c.args.items c.args.slot c.in-Hits.hits in
      let before = c.requires.counts in
      let k = account_goes (ahead_with 0 c.args.held.given) (ahead_with 0 false) c.args.looks 0 c.args.terms.now.class no_rises c.args.held.given 0 c.args.account.now b counted (reply_enough false c.args.held.given) (omega arith) before.account in
      record {
        goes = rw c.in-Hits.is goes;
        account = e;
        done = c.found.ensures.done;
        holds = record {
          kept = record {
            may = c.requires.may;
            session = c.found.ensures.session;
            account = goes_holds (IsKeptIn want b) wanted (Spoiled c.args.held.seat) new answer goes
                (recorded_account want b want task held c.args.items c.args.slot c.in-Hits.hits c.args.now k) (spoiled_account want b held k);
          };
          stands = c.found.ensures.stands most b;
          within = within_on c.args.terms.now.pool (Searching c.args.held c.args.items c.args.slot c.args.looks) new c.args.terms.now.class no_rises c.args.held.given 0 c.args.account.now b counted refl refl (omega arith) before.within;
        };
      };
}

pub returns-in_default : goal.returns-in_default
returns-in_default g c = record {
  follows = λ most.
      let e = c.count_look-looks.ensures.account in
      let diag = c.diag_of.result in
      let is = c.diag_of.ensures.diag in
      let counted = rw is at e in
      let heard = rw is at c.requires.heard in
      let held = hold c.args.held.seat c.args.held.parts false in
      let task = c.args.task.now in
      let b = c.count_look-looks.new.account in
      let before = c.requires.counts in
      record {
        goes = rw is (refl, refl);
        account = e;
        done = refl;
        holds = record {
          kept = record {
            may = c.requires.may;
            session = (record { waits = heard.rests.waits; kept = heard.rests.kept }, tt);
            account = account_goes (ahead_with 0 c.args.held.given) nothing_ahead c.args.looks 0 c.args.terms.now.class no_rises c.args.held.given 0 c.args.account.now b counted (end_enough false c.args.held.given) (omega arith) before.account;
          };
          stands = (c.requires.among, unfound_right g.W.World g.S.Sitting (lent_terms c.args.terms.now) task c.args.held diag heard, tt);
          within = within_on {S = g.row.S.Denot} c.args.terms.now.pool (Searching c.args.held c.args.items c.args.slot c.args.looks) (Returning held (Refused diag)) c.args.terms.now.class no_rises c.args.held.given 0 c.args.account.now b counted refl refl (omega arith) before.within;
        };
      };
}

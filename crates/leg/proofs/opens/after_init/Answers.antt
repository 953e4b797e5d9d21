use Rattle.std.proofs.Common.{◌+◌, arith, refl, is_some, false, []}
use Rattle.leg.proofs.Ends.{fault_holds, fault_not_done, silent_holds, silent_is, spoiled_holds, again_is, wait_account, wait_within}
use Rattle.leg.specs.Accounts.{no_rises}
use Rattle.leg.specs.Kept.{ahead_with, one_if}
use Rattle.leg.specs.Terms.{lent_terms}
use Rattle.leg.specs.Phases.{hold}
use Rattle.leg.specs.Tasks.{want_of}
use Rattle.leg.specs.declared.phases.Phase.TheVariants.{Dialled, Ready}
use Rattle.leg.proofs.AccountSteps.{account_goes, reply_enough, within_on}
use Rattle.leg.proofs.Opened.{no_items}
use Rattle.leg.proofs.opens.after_init.Goals as goal

pub returns-in-Memory : goal.returns-in-Memory
returns-in-Memory g c = record {
  follows = λ now most.
      let e = c.count_look-looks.ensures.account in
      let counted = rw c.in-Memory.is at e in
      let k = c.requires.counts in
      record {
        goes = rw c.in-Memory.is (refl, refl);
        account = e;
        done = refl;
        holds = spoiled_holds g.W.World g.S.Sitting (lent_terms c.args.terms.now) c.args.task.now most (Dialled c.args.held c.args.looks) c.args.held.seat (is_some (want_of c.args.task.now)) c.args.held.given c.args.looks c.args.account.now c.count_look-looks.new.account counted refl c.requires.may k.account k.within;
      };
}

pub returns-in-Failed : goal.returns-in-Failed
returns-in-Failed g c = record {
  follows = λ now most.
      let e = c.count_look-looks.ensures.account in
      let counted = rw c.in-Failed.is at e in
      let k = c.requires.counts in
      record {
        goes = rw c.in-Failed.is (c.after_fault.ensures, refl);
        account = e;
        done = rw c.after_fault.ensures (fault_not_done g.W.World g.S.Sitting (lent_terms c.args.terms.now) c.args.task.now c.args.held);
        holds = rw c.after_fault.ensures (fault_holds g.W.World g.S.Sitting (lent_terms c.args.terms.now) c.args.task.now most (Dialled c.args.held c.args.looks) c.args.held (is_some (want_of c.args.task.now)) c.args.looks 0 c.args.account.now c.count_look-looks.new.account counted refl (omega arith) c.requires.may k.account k.within);
      };
}

pub returns-then-terms-looks : goal.returns-then-terms-looks
returns-then-terms-looks g c = record {
  follows = λ now most.
      let e = c.count_look-looks.ensures.account in
      let counted = rw c.in-NotYet.is at e in
      let looks = rw c.in-NotYet.is at c.count_look-looks.ensures.looks in
      let enough = rw looks at c.if-terms-looks.true in
      let k = c.requires.counts in
      record {
        goes = rw (c.silent.ensures, c.in-NotYet.is) (silent_is _ _ c.args.held _ enough, refl);
        account = e;
        done = rw c.silent.ensures refl;
        holds = rw c.silent.ensures (silent_holds g.W.World g.S.Sitting (lent_terms c.args.terms.now) c.args.task.now most (Dialled c.args.held c.args.looks) c.args.held.seat (is_some (want_of c.args.task.now)) c.args.held.given c.args.looks c.args.account.now c.count_look-looks.new.account counted refl enough c.requires.may k.account k.within);
      };
}

pub returns-else-terms-looks : goal.returns-else-terms-looks
returns-else-terms-looks g c = record {
  follows = λ now most.
      let e = c.count_look-looks.ensures.account in
      let counted = rw c.in-NotYet.is at e in
      let looks = rw c.in-NotYet.is at c.count_look-looks.ensures.looks in
      let more = rw looks at c.if-terms-looks.false in
      let heard = rw c.in-NotYet.is at c.requires.heard in
      let k = c.requires.counts in
      record {
        goes = rw (c.in-NotYet.is, looks) (again_is _ _ c.args.held _ more, refl);
        account = e;
        done = refl;
        holds = rw looks (record {
          kept = record {
            may = c.requires.may;
            session = heard;
            account = wait_account (is_some (want_of c.args.task.now)) c.args.held.given c.args.looks c.args.terms.now.class c.args.account.now c.count_look-looks.new.account counted k.account;
          };
          stands = c.requires.among;
          within = wait_within {S = g.row.S.Denot} c.args.terms.now.pool (Dialled c.args.held c.args.looks) (Dialled c.args.held (c.args.looks + 1)) c.args.terms.now.class c.args.held.given c.args.looks c.args.account.now c.count_look-looks.new.account counted refl refl k.account.most_looks more k.within;
        });
      };
}

pub returns-in-Opened : goal.returns-in-Opened
returns-in-Opened g c = record {
  follows = λ now most.
      let e = c.count_look-looks.ensures.account in
      let counted = rw c.in-Opened.is at e in
      let heard = rw c.in-Opened.is at c.requires.heard in
      let k = c.requires.counts in
      let wanted = is_some (want_of c.args.task.now) in
      let held = c.args.held in
      let still = hold held.seat held.parts false in
      record {
        goes = rw (c.in-Opened.is, c.new-items.ensures) (refl, refl);
        account = e;
        done = refl;
        holds = rw c.new-items.ensures (record {
          kept = record {
            may = c.requires.may;
            session = (record { is_held = record { waits = heard.is_held.waits; kept = heard.is_held.kept }; lacks = heard.lacks }, no_items g.W.World g.S.Sitting c.args.task.now still c.requires.may);
            account = account_goes (ahead_with (one_if wanted) held.given) (ahead_with (one_if wanted) false) c.args.looks 0 c.args.terms.now.class no_rises held.given 0 c.args.account.now c.count_look-looks.new.account counted (reply_enough wanted held.given) (omega arith) k.account;
          };
          stands = c.requires.among;
          within = within_on {S = g.row.S.Denot} c.args.terms.now.pool (Dialled held c.args.looks) (Ready still []) c.args.terms.now.class no_rises held.given 0 c.args.account.now c.count_look-looks.new.account counted refl refl (omega arith) k.within;
        });
      };
}

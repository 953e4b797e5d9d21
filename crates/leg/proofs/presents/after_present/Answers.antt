use Rattle.std.proofs.Common.{◌+◌, false, arith, refl}
use Rattle.pool_sets.specs.Table.{after_forget}
use Rattle.leg.specs.Accounts.{no_rises}
use Rattle.leg.specs.Kept.{ahead_with}
use Rattle.leg.specs.Phases.{hold, with_sets}
use Rattle.leg.specs.Tasks.{want_of}
use Rattle.leg.specs.Terms.{lent_terms}
use Rattle.leg.specs.declared.phases.Phase.TheVariants.{Fetching}
use Rattle.leg.proofs.AccountSteps.{account_goes, reply_enough, within_on}
use Rattle.leg.proofs.Ends.{fault_holds, fault_not_done, silent_holds, silent_is, spoiled_holds, again_is, wait_account, wait_within}
use Rattle.leg.proofs.Fetched.{gone_holds, gone_not_done, present_goes, present_account, present_counted, present_reply}
use Rattle.leg.proofs.presents.after_present.Goals as goal

pub returns-in-Memory : goal.returns-in-Memory
returns-in-Memory g c = record {
  follows = λ now most.
      let e = c.count_look-looks.ensures.account in
      let counted = rw c.in-Memory.is at e in
      let k = c.requires.counts in
      record {
        goes = rw c.in-Memory.is (refl, refl);
        account = e;
        done = refl;
        holds = spoiled_holds g.W.World g.S.Sitting (lent_terms c.args.terms.now) c.args.task.now most (Fetching c.args.held c.args.items c.args.slot c.args.hits c.args.looks) c.args.held.seat false c.args.held.given c.args.looks c.args.account.now c.count_look-looks.new.account counted refl c.requires.may k.account k.within;
      };
}

pub returns-in-Failed : goal.returns-in-Failed
returns-in-Failed g c = record {
  follows = λ now most.
      let e = c.count_look-looks.ensures.account in
      let counted = rw c.in-Failed.is at e in
      let k = c.requires.counts in
      record {
        goes = rw c.in-Failed.is (c.after_fault.ensures, refl);
        account = e;
        done = rw c.after_fault.ensures (fault_not_done g.W.World g.S.Sitting (lent_terms c.args.terms.now) c.args.task.now c.args.held);
        holds = rw c.after_fault.ensures (fault_holds g.W.World g.S.Sitting (lent_terms c.args.terms.now) c.args.task.now most (Fetching c.args.held c.args.items c.args.slot c.args.hits c.args.looks) c.args.held false c.args.looks 0 c.args.account.now c.count_look-looks.new.account counted refl (omega arith) c.requires.may k.account k.within);
      };
}

pub returns-then-terms-looks : goal.returns-then-terms-looks
returns-then-terms-looks g c = record {
  follows = λ now most.
      let e = c.count_look-looks.ensures.account in
      let counted = rw c.in-NotYet.is at e in
      let looks = rw c.in-NotYet.is at c.count_look-looks.ensures.looks in
      let enough = rw looks at c.if-terms-looks.true in
      let k = c.requires.counts in
      record {
        goes = rw (c.silent.ensures, c.in-NotYet.is) (silent_is _ _ c.args.held _ enough, refl);
        account = e;
        done = rw c.silent.ensures refl;
        holds = rw c.silent.ensures (silent_holds g.W.World g.S.Sitting (lent_terms c.args.terms.now) c.args.task.now most (Fetching c.args.held c.args.items c.args.slot c.args.hits c.args.looks) c.args.held.seat false c.args.held.given c.args.looks c.args.account.now c.count_look-looks.new.account counted refl enough c.requires.may k.account k.within);
      };
}

pub returns-else-terms-looks : goal.returns-else-terms-looks
returns-else-terms-looks g c = record {
  follows = λ now most.
      let e = c.count_look-looks.ensures.account in
      let counted = rw c.in-NotYet.is at e in
      let looks = rw c.in-NotYet.is at c.count_look-looks.ensures.looks in
      let more = rw looks at c.if-terms-looks.false in
      let heard = rw c.in-NotYet.is at c.requires.heard in
      let k = c.requires.counts in
      record {
        goes = rw (c.in-NotYet.is, looks) (again_is _ _ c.args.held _ more, refl);
        account = e;
        done = refl;
        holds = rw looks (record {
          kept = record {
            may = c.requires.may;
            session = (heard, c.requires.items, c.requires.own);
            account = wait_account false c.args.held.given c.args.looks c.args.terms.now.class c.args.account.now c.count_look-looks.new.account counted k.account;
          };
          stands = c.requires.among;
          within = wait_within {S = g.row.S.Denot} c.args.terms.now.pool (Fetching c.args.held c.args.items c.args.slot c.args.hits c.args.looks) (Fetching c.args.held c.args.items c.args.slot c.args.hits (c.args.looks + 1)) c.args.terms.now.class c.args.held.given c.args.looks c.args.account.now c.count_look-looks.new.account counted refl refl k.account.most_looks more k.within;
        });
      };
}

pub returns-in-Gone : goal.returns-in-Gone
returns-in-Gone g c = record {
  follows = λ now most.
      let e = c.count_look-looks.ensures.account in
      let counted = rw c.in-Gone.is at e in
      let held = c.args.held in
      let left = with_sets (after_forget c.args.slot held.parts.table) (hold held.seat held.parts false) in
      let b = c.count_look-looks.new.account in
      let k = c.requires.counts in
      record {
        goes = rw (c.gone_again-phase.ensures, c.forget.ensures, c.in-Gone.is) (refl, refl);
        account = e;
        done = rw (c.gone_again-phase.ensures, c.forget.ensures) (gone_not_done c.args.terms.now.pool.repeats b.gones left c.args.items);
        holds = rw (c.gone_again-phase.ensures, c.forget.ensures) (gone_holds g.W.World g.S.Sitting (lent_terms c.args.terms.now) most c.args.task.now held c.args.items c.args.slot c.args.hits c.args.looks c.args.account.now b counted (rw c.in-Gone.is at c.requires.heard) c.requires.items c.requires.own c.requires.may c.requires.among k.account k.within);
      };
}

pub returns-in_default : goal.returns-in_default
returns-in_default g c = record {
  follows = λ now most.
      let e = c.count_look-looks.ensures.account in
      let held = c.args.held in
      let task = c.args.task.now in
      let b = c.count_look-looks.new.account in
      let goes = c.with_reply.ensures.goes in
      let answer = c.with_reply.result.1 in
      let new = c.with_reply.result.0 in
      let reply = present_reply g.W.World g.S.Sitting task held c.args.items c.args.slot c.args.heard c.requires.heard c.in_default.not-Gone c.in_default.not-NotYet c.in_default.not-Failed c.in_default.not-Memory in
      let counted = present_counted c.args.terms.now.class held.given c.args.looks c.args.heard c.args.account.now b reply e in
      let before = c.requires.counts in
      let k = account_goes (ahead_with 0 held.given) (ahead_with 0 false) c.args.looks 0 c.args.terms.now.class no_rises held.given 0 c.args.account.now b counted (reply_enough false held.given) (omega arith) before.account in
      record {
        goes = present_goes (lent_terms c.args.terms.now) task b.gones held c.args.items c.args.slot c.args.hits c.args.looks c.args.heard answer new reply goes;
        account = e;
        done = c.with_reply.ensures.done;
        holds = record {
          kept = record {
            may = c.requires.may;
            session = c.with_reply.ensures.session;
            account = present_account (want_of task) b task (hold held.seat held.parts false) c.args.items c.args.slot c.args.hits c.args.heard answer new reply goes k;
          };
          stands = c.with_reply.ensures.stands most b;
          within = within_on c.args.terms.now.pool (Fetching held c.args.items c.args.slot c.args.hits c.args.looks) new c.args.terms.now.class no_rises held.given 0 c.args.account.now b counted refl refl (omega arith) before.within;
        };
      };
}

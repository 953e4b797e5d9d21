use Rattle.std.proofs.Common.{◌+◌, false, arith, refl}
use Rattle.leg.specs.Terms.{lent_terms}
use Rattle.leg.specs.declared.phases.Phase.TheVariants.{Scanning}
use Rattle.leg.proofs.Ends.{fault_holds, fault_not_done, silent_holds, silent_is, spoiled_holds, again_is, wait_account, wait_within}
use Rattle.leg.proofs.Replied.{scan_replied}
use Rattle.leg.proofs.scans.after_scan.Goals as goal

pub returns-in-Memory : goal.returns-in-Memory
returns-in-Memory g c = record {
  follows = λ now most.
      let e = c.count_look-looks.ensures.account in
      let counted = rw c.in-Memory.is at e in
      let k = c.requires.counts in
      record {
        goes = rw c.in-Memory.is (refl, refl);
        account = e;
        done = refl;
        holds = spoiled_holds g.W.World g.S.Sitting (lent_terms c.args.terms.now) c.args.task.now most (Scanning c.args.held c.args.looks) c.args.held.seat false c.args.held.given c.args.looks c.args.account.now c.count_look-looks.new.account counted refl c.requires.may k.account k.within;
      };
}

pub returns-in-Failed : goal.returns-in-Failed
returns-in-Failed g c = record {
  follows = λ now most.
      let e = c.count_look-looks.ensures.account in
      let counted = rw c.in-Failed.is at e in
      let k = c.requires.counts in
      record {
        goes = rw c.in-Failed.is (c.after_fault.ensures, refl);
        account = e;
        done = rw c.after_fault.ensures (fault_not_done g.W.World g.S.Sitting (lent_terms c.args.terms.now) c.args.task.now c.args.held);
        holds = rw c.after_fault.ensures (fault_holds g.W.World g.S.Sitting (lent_terms c.args.terms.now) c.args.task.now most (Scanning c.args.held c.args.looks) c.args.held false c.args.looks 0 c.args.account.now c.count_look-looks.new.account counted refl (omega arith) c.requires.may k.account k.within);
      };
}

pub returns-then-terms-looks : goal.returns-then-terms-looks
returns-then-terms-looks g c = record {
  follows = λ now most.
      let e = c.count_look-looks.ensures.account in
      let counted = rw c.in-NotYet.is at e in
      let looks = rw c.in-NotYet.is at c.count_look-looks.ensures.looks in
      let enough = rw looks at c.if-terms-looks.true in
      let k = c.requires.counts in
      record {
        goes = rw (c.silent.ensures, c.in-NotYet.is) (silent_is _ _ c.args.held _ enough, refl);
        account = e;
        done = rw c.silent.ensures refl;
        holds = rw c.silent.ensures (silent_holds g.W.World g.S.Sitting (lent_terms c.args.terms.now) c.args.task.now most (Scanning c.args.held c.args.looks) c.args.held.seat false c.args.held.given c.args.looks c.args.account.now c.count_look-looks.new.account counted refl enough c.requires.may k.account k.within);
      };
}

pub returns-else-terms-looks : goal.returns-else-terms-looks
returns-else-terms-looks g c = record {
  follows = λ now most.
      let e = c.count_look-looks.ensures.account in
      let counted = rw c.in-NotYet.is at e in
      let looks = rw c.in-NotYet.is at c.count_look-looks.ensures.looks in
      let more = rw looks at c.if-terms-looks.false in
      let heard = rw c.in-NotYet.is at c.requires.heard in
      let k = c.requires.counts in
      record {
        goes = rw (c.in-NotYet.is, looks) (again_is _ _ c.args.held _ more, refl);
        account = e;
        done = refl;
        holds = rw looks (record {
          kept = record {
            may = c.requires.may;
            session = heard.0;
            account = wait_account false c.args.held.given c.args.looks c.args.terms.now.class c.args.account.now c.count_look-looks.new.account counted k.account;
          };
          stands = (c.requires.among, heard.1);
          within = wait_within {S = g.row.S.Denot} c.args.terms.now.pool (Scanning c.args.held c.args.looks) (Scanning c.args.held (c.args.looks + 1)) c.args.terms.now.class c.args.held.given c.args.looks c.args.account.now c.count_look-looks.new.account counted refl refl k.account.most_looks more k.within;
        });
      };
}

pub returns-in_default : goal.returns-in_default
returns-in_default g c = record {
  follows = λ now most.
      let k = c.requires.counts in
      rw c.scan_answer-answer.ensures.answer
      (scan_replied g.W.World g.S.Sitting (lent_terms c.args.terms.now) c.args.task.now now most c.args.held c.args.looks c.args.heard c.args.account.now c.count_look-looks.new.account
      c.count_look-looks.ensures.account c.in_default.not-NotYet c.in_default.not-Failed c.in_default.not-Memory c.requires.heard c.requires.among c.requires.may k.account k.within);
}

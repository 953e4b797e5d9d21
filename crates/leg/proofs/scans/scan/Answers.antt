use Rattle.std.proofs.Common.{is_some, refl, arith}
use Rattle.leg.specs.Accounts.{no_rises}
use Rattle.leg.specs.Deeds.{began, no_memory, rises_of}
use Rattle.leg.specs.Kept.{ahead_with, one_if}
use Rattle.leg.specs.Tasks.{want_of}
use Rattle.leg.specs.Terms.{lent_terms}
use Rattle.leg.specs.declared.phases.Phase.TheVariants.{Ready, Scanning}
use Rattle.leg.proofs.AccountSteps.{account_goes, looks_stay, within_on, scan_enough}
use Rattle.leg.proofs.Ends.{fault_holds, fault_not_done, spoiled_holds}
use Rattle.leg.specs.Phases.{with_session}
use Rattle.leg.proofs.Asked.{may_scan_of}
use Rattle.leg.proofs.Heards.{table_along}
use Rattle.leg.proofs.scans.scan.Goals as goal

pub returns-in_default : goal.returns-in_default
returns-in_default g c = record {
  step = λ now door.
      let e = rw c.none.ensures at c.count.ensures in
      let k = c.requires.counts in
      record {
        law = record {
          deed = no_memory;
          due = tt;
          goes = (refl, refl);
          account = e;
          looks = looks_stay c.args.terms.now.class no_rises c.args.held.given c.args.account.now c.count.new.self e;
          pool = refl;
          door_counts = refl;
          backend_moves = record { counts = refl; happened = refl };
          links = tt;
        };
        done = refl;
        holds = spoiled_holds g.W.World g.S.Sitting (lent_terms c.args.terms.now) c.args.task.now door.counts.most (Ready c.args.held c.args.items) c.args.held.seat (is_some (want_of c.args.task.now)) c.args.held.given 0 c.args.account.now c.count.new.self e refl c.requires.kept.may k.account k.within;
      };
}

pub start-began-requires-clause-may : goal.start-began-requires-clause-may
start-began-requires-clause-may g c =
    rw c.in-Ok.ensures (may_scan_of c.args.terms.now.dbs.now c.args.ask.now c.requires.dbs (rw c.requires.scan at c.requires.kept.may))

pub returns-in-Started : goal.returns-in-Started
returns-in-Started g c = record {
  step = λ now door.
      let l = c.start-began.ensures in
      let e = c.count_start.ensures in
      let asked_for = c.in-Ok.own in
      let deed = began asked_for c.start-began.result c.start-began.new.session in
      let counted = rw (c.in-Started.is, c.in-Ok.ensures) at e in
      let pending = rw c.in-Started.is at l.pending in
      let k = c.requires.counts in
      let b = c.count_start.new.account in
      record {
        law = record {
          deed = deed;
          due = record { asks = rw c.requires.scan c.in-Ok.ensures; waits = l.pending; address = l.address; made = l.made };
          goes = rw (c.in-Started.is, c.requires.scan) (refl, refl);
          account = e;
          looks = looks_stay c.args.terms.now.class (rises_of (want_of c.args.task.now) deed) c.args.held.given c.args.account.now b e;
          pool = refl;
          door_counts = refl;
          backend_moves = record { counts = l.counts; happened = l.happened };
          links = l.steady;
        };
        done = refl;
        holds = record {
          kept = record {
            may = c.requires.kept.may;
            session = table_along g.W.World g.S.Sitting c.start-began.new.session c.args.held.parts l.address l.made c.requires.kept.session.0.is_held.kept;
            account = account_goes (ahead_with (one_if (is_some (want_of c.args.task.now))) c.args.held.given) (ahead_with 0 c.args.held.given) 0 0 c.args.terms.now.class no_rises c.args.held.given 0 c.args.account.now b counted (scan_enough (is_some (want_of c.args.task.now)) c.args.held.given) (omega arith) k.account;
          };
          stands = (c.requires.among, rw c.requires.scan (rw c.in-Ok.ensures at pending));
          within = within_on {S = g.row.S.Denot} c.args.terms.now.pool (Ready c.args.held c.args.items) (Scanning (with_session c.start-began.new.session c.args.held) 0) c.args.terms.now.class no_rises c.args.held.given 0 c.args.account.now b counted refl refl (omega arith) k.within;
        };
      };
}

pub returns-in-Failed : goal.returns-in-Failed
returns-in-Failed g c = record {
  step = λ now door.
      let l = c.start-began.ensures in
      let e = c.count_start.ensures in
      let asked_for = c.in-Ok.own in
      let deed = began asked_for c.start-began.result c.start-began.new.session in
      let counted = rw c.in-Failed.is at e in
      let k = c.requires.counts in
      let b = c.count_start.new.account in
      record {
        law = record {
          deed = deed;
          due = record { asks = rw c.requires.scan c.in-Ok.ensures; waits = l.pending; address = l.address; made = l.made };
          goes = rw c.in-Failed.is (c.after_fault.ensures, refl);
          account = e;
          looks = looks_stay c.args.terms.now.class (rises_of (want_of c.args.task.now) deed) c.args.held.given c.args.account.now b e;
          pool = refl;
          door_counts = refl;
          backend_moves = record { counts = l.counts; happened = l.happened };
          links = l.steady;
        };
        done = rw c.after_fault.ensures (fault_not_done g.W.World g.S.Sitting (lent_terms c.args.terms.now) c.args.task.now c.args.held);
        holds = rw c.after_fault.ensures (fault_holds g.W.World g.S.Sitting (lent_terms c.args.terms.now) c.args.task.now door.counts.most (Ready c.args.held c.args.items) c.args.held (is_some (want_of c.args.task.now)) 0 0 c.args.account.now b counted refl (omega arith) c.requires.kept.may k.account k.within);
      };
}

pub returns-in-Memory : goal.returns-in-Memory
returns-in-Memory g c = record {
  step = λ now door.
      let l = c.start-began.ensures in
      let e = c.count_start.ensures in
      let asked_for = c.in-Ok.own in
      let deed = began asked_for c.start-began.result c.start-began.new.session in
      let counted = rw c.in-Memory.is at e in
      let k = c.requires.counts in
      let b = c.count_start.new.account in
      record {
        law = record {
          deed = deed;
          due = record { asks = rw c.requires.scan c.in-Ok.ensures; waits = l.pending; address = l.address; made = l.made };
          goes = rw c.in-Memory.is (refl, refl);
          account = e;
          looks = looks_stay c.args.terms.now.class (rises_of (want_of c.args.task.now) deed) c.args.held.given c.args.account.now b e;
          pool = refl;
          door_counts = refl;
          backend_moves = record { counts = l.counts; happened = l.happened };
          links = l.steady;
        };
        done = refl;
        holds = spoiled_holds g.W.World g.S.Sitting (lent_terms c.args.terms.now) c.args.task.now door.counts.most (Ready c.args.held c.args.items) c.args.held.seat (is_some (want_of c.args.task.now)) c.args.held.given 0 c.args.account.now b counted refl c.requires.kept.may k.account k.within;
      };
}

use Rattle.std.proofs.Common.{◌∙◌, is_some, refl, sym, arith}
use Rattle.leg.specs.Accounts.{no_rises}
use Rattle.leg.specs.Deeds.{began, no_memory, rises_of}
use Rattle.leg.specs.Kept.{ahead_with}
use Rattle.leg.specs.Tasks.{want_of}
use Rattle.leg.specs.Terms.{lent_terms}
use Rattle.leg.specs.declared.phases.Phase.TheVariants.{Ready, Searching}
use Rattle.leg.proofs.AccountSteps.{account_goes, looks_stay, within_on, search, search_enough}
use Rattle.leg.proofs.Ends.{fault_holds, fault_not_done, spoiled_holds}
use Rattle.leg.specs.Phases.{with_session, with_sets}
use Rattle.leg.proofs.Asked.{may_search_under, may_want, is_wanted, lacks_own, first_ask_is, first_started, room_kept, items_moved}
use Rattle.leg.proofs.Lacks.{lacks_after_room}
use Rattle.leg.proofs.searches.search.Goals as goal

pub returns-in_default : goal.returns-in_default
returns-in_default g c = record {
  step = λ now door.
      let e = rw c.none.ensures at c.count.ensures in
      let k = c.requires.counts in
      record {
        law = record {
          deed = no_memory;
          due = tt;
          goes = (refl, refl);
          account = e;
          looks = looks_stay c.args.terms.now.class no_rises c.args.held.given c.args.account.now c.count.new.self e;
          pool = refl;
          door_counts = refl;
          backend_moves = record { counts = refl; happened = refl };
          links = tt;
        };
        done = refl;
        holds = spoiled_holds g.W.World g.S.Sitting (lent_terms c.args.terms.now) c.args.task.now door.counts.most (Ready c.args.held c.args.items) c.args.held.seat (is_some (want_of c.args.task.now)) c.args.held.given 0 c.args.account.now c.count.new.self e refl c.requires.kept.may k.account k.within;
      };
}

pub start-began-requires-clause-may : goal.start-began-requires-clause-may
start-began-requires-clause-may g c =
    rw c.in-Ok.ensures (may_search_under c.room-slot.result c.args.key.now (omega arith) (may_want c.args.task.now c.args.key.now c.requires.wants c.requires.kept.may))

pub returns-in-Started : goal.returns-in-Started
returns-in-Started g c = record {
  step = λ now door.
      let l = c.start-began.ensures in
      let e = c.count_start.ensures in
      let asked_for = c.in-Ok.ask in
      let deed = began asked_for c.start-began.result c.start-began.new.session in
      let asks = (rw c.room-slot.ensures.slot at c.in-Ok.ensures) ∙ sym (first_ask_is c.args.terms.now.dbs.now c.args.task.now c.args.held c.args.key.now c.requires.wants) in
      let counted = rw (c.in-Started.is, c.in-Ok.ensures) at e in
      let pending = rw c.in-Started.is at l.pending in
      let k = c.requires.counts in
      let b = c.count_start.new.account in
      record {
        law = record {
          deed = deed;
          due = record { asks = asks; waits = l.pending; address = l.address; made = l.made };
          goes = rw (c.room-slot.ensures.after, c.room-slot.ensures.slot, c.in-Started.is) (sym (first_started c.args.task.now c.args.held c.args.items c.start-began.new.session c.args.key.now c.requires.wants), refl);
          account = e;
          looks = looks_stay c.args.terms.now.class (rises_of (want_of c.args.task.now) deed) c.args.held.given c.args.account.now b e;
          pool = refl;
          door_counts = refl;
          backend_moves = record { counts = l.counts; happened = l.happened };
          links = l.steady;
        };
        done = refl;
        holds = record {
          kept = record {
            may = c.requires.kept.may;
            session = (
              record {
                key = c.args.key.now;
                wants = c.requires.wants;
                asks = record { waits = rw c.in-Ok.ensures at pending; kept = room_kept g.W.World g.S.Sitting c.start-began.new.session c.args.held.parts c.room-slot.new.self c.room-slot.ensures.after l.address l.made c.requires.kept.session.0.is_held.kept };
                room = c.room-slot.ensures.room;
                lacks = rw c.room-slot.ensures.after (lacks_after_room c.args.key.now c.args.held.parts.table (lacks_own (want_of c.args.task.now) c.args.key.now c.args.held.parts.table c.requires.wants c.requires.kept.session.0.lacks));
              },
              items_moved g.W.World g.S.Sitting c.args.task.now c.args.held c.args.items c.start-began.new.session c.room-slot.new.self c.requires.kept.session.1,
            );
            account = account_goes (ahead_with 1 c.args.held.given) (ahead_with 0 c.args.held.given) 0 0 c.args.terms.now.class search c.args.held.given 0 c.args.account.now b counted (search_enough c.args.held.given) (omega arith)
                (rw (is_wanted (want_of c.args.task.now) c.args.key.now c.requires.wants) at k.account);
          };
          stands = c.requires.among;
          within = within_on {S = g.row.S.Denot} c.args.terms.now.pool (Ready c.args.held c.args.items) (Searching (with_sets c.room-slot.new.self (with_session c.start-began.new.session c.args.held)) c.args.items c.room-slot.result 0) c.args.terms.now.class search c.args.held.given 0 c.args.account.now b counted refl refl (omega arith) k.within;
        };
      };
}

pub returns-in-Failed : goal.returns-in-Failed
returns-in-Failed g c = record {
  step = λ now door.
      let l = c.start-began.ensures in
      let e = c.count_start.ensures in
      let asked_for = c.in-Ok.ask in
      let deed = began asked_for c.start-began.result c.start-began.new.session in
      let asks = (rw c.room-slot.ensures.slot at c.in-Ok.ensures) ∙ sym (first_ask_is c.args.terms.now.dbs.now c.args.task.now c.args.held c.args.key.now c.requires.wants) in
      let counted = rw c.in-Failed.is at e in
      let k = c.requires.counts in
      let b = c.count_start.new.account in
      record {
        law = record {
          deed = deed;
          due = record { asks = asks; waits = l.pending; address = l.address; made = l.made };
          goes = rw c.in-Failed.is (c.after_fault.ensures, refl);
          account = e;
          looks = looks_stay c.args.terms.now.class (rises_of (want_of c.args.task.now) deed) c.args.held.given c.args.account.now b e;
          pool = refl;
          door_counts = refl;
          backend_moves = record { counts = l.counts; happened = l.happened };
          links = l.steady;
        };
        done = rw c.after_fault.ensures (fault_not_done g.W.World g.S.Sitting (lent_terms c.args.terms.now) c.args.task.now c.args.held);
        holds = rw c.after_fault.ensures (fault_holds g.W.World g.S.Sitting (lent_terms c.args.terms.now) c.args.task.now door.counts.most (Ready c.args.held c.args.items) c.args.held (is_some (want_of c.args.task.now)) 0 0 c.args.account.now b counted refl (omega arith) c.requires.kept.may k.account k.within);
      };
}

pub returns-in-Memory : goal.returns-in-Memory
returns-in-Memory g c = record {
  step = λ now door.
      let l = c.start-began.ensures in
      let e = c.count_start.ensures in
      let asked_for = c.in-Ok.ask in
      let deed = began asked_for c.start-began.result c.start-began.new.session in
      let asks = (rw c.room-slot.ensures.slot at c.in-Ok.ensures) ∙ sym (first_ask_is c.args.terms.now.dbs.now c.args.task.now c.args.held c.args.key.now c.requires.wants) in
      let counted = rw c.in-Memory.is at e in
      let k = c.requires.counts in
      let b = c.count_start.new.account in
      record {
        law = record {
          deed = deed;
          due = record { asks = asks; waits = l.pending; address = l.address; made = l.made };
          goes = rw c.in-Memory.is (refl, refl);
          account = e;
          looks = looks_stay c.args.terms.now.class (rises_of (want_of c.args.task.now) deed) c.args.held.given c.args.account.now b e;
          pool = refl;
          door_counts = refl;
          backend_moves = record { counts = l.counts; happened = l.happened };
          links = l.steady;
        };
        done = refl;
        holds = spoiled_holds g.W.World g.S.Sitting (lent_terms c.args.terms.now) c.args.task.now door.counts.most (Ready c.args.held c.args.items) c.args.held.seat (is_some (want_of c.args.task.now)) c.args.held.given 0 c.args.account.now b counted refl c.requires.kept.may k.account k.within;
      };
}

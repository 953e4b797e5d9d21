use Rattle.std.proofs.Common.{ap, false, refl}
use Rattle.pool_sets.specs.Counts.{DoorCounts}
use Rattle.leg.specs.Deeds.{took, rises_of}
use Rattle.leg.specs.Tasks.{want_of}
use Rattle.leg.proofs.AccountSteps.{looks_stay}
use Rattle.leg.proofs.doors.take.Goals as goal

pub after_take-requires-clause-fits : goal.after_take-requires-clause-fits
after_take-requires-clause-fits g c = ((g.D.Door.counts c.args.door.now).most, rw (c.want_of.ensures, c.as_ref.ensures.value) at c.take-taken.ensures.fits)

pub returns : goal.returns
returns g c = record {
  step = λ exact backend.
      let l = c.take-taken.ensures in
      let fits = rw (c.want_of.ensures, c.as_ref.ensures.value) at l.fits in
      let counts = rw c.want_of.ensures at l.counts in
      let same = ap (λ (n : DoorCounts). n.most) counts in
      let f = c.after_take.ensures.follows (g.D.Door.counts c.args.door.now).most c.args.now fits in
      let after = c.after_take.ensures.follows (g.D.Door.counts c.take-taken.new.self).most c.args.now (rw same fits) in
      let deed = took c.take-taken.result in
      record {
        law = record {
          deed = deed;
          due = fits;
          goes = f.goes;
          account = f.account;
          looks = looks_stay c.args.terms.now.class (rises_of (want_of c.args.task.now) deed) false c.args.account.now c.after_take.new.account f.account;
          pool = rw (c.want_of.ensures, c.as_ref.ensures.value) at l.plain;
          door_counts = counts;
          backend_moves = record { counts = refl; happened = refl };
          links = tt;
        };
        done = f.done;
        holds = after.holds;
      };
}

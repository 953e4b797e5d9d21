use Rattle.std.proofs.Common.{false, ap, refl}
use Rattle.pool_sets.specs.Counts.{DoorCounts}
use Rattle.leg.proofs.AccountSteps.{looks_stay}
use Rattle.leg.proofs.Ends.{done_holds}
use Rattle.leg.specs.Accounts.{no_rises}
use Rattle.leg.specs.Deeds.{gave_up}
use Rattle.leg.specs.Terms.{lent_terms}
use Rattle.leg.specs.declared.phases.Phase.TheVariants.{Losing}
use Rattle.leg.proofs.doors.lose.Goals as goal

pub returns : goal.returns
returns g c = record {
  step = λ now exact backend.
      let e = rw c.none.ensures at c.count.ensures in
      let same = ap (λ (n : DoorCounts). n.most) c.lost.ensures.counts in
      record {
        law = record {
          deed = gave_up;
          due = tt;
          goes = (refl, refl);
          account = e;
          looks = looks_stay c.args.terms.now.class no_rises false c.args.account.now c.count.new.self e;
          pool = c.lost.ensures.plain;
          door_counts = c.lost.ensures.counts;
          backend_moves = record { counts = refl; happened = refl };
          links = tt;
        };
        done = refl;
        holds = done_holds g.W.World g.S.Sitting (lent_terms c.args.terms.now) c.args.task.now _ _ (Losing c.args.seat c.args.answer) c.args.answer false c.args.account.now c.count.new.self e same
            c.requires.kept.may c.requires.kept.session c.requires.stands.0 c.requires.stands.1 c.requires.kept.account c.requires.counts.within;
      };
}

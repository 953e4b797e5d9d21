use Rattle.std.proofs.Common.{ap, refl}
use Rattle.pool_sets.specs.Counts.{DoorCounts}
use Rattle.leg.proofs.AccountSteps.{looks_stay}
use Rattle.leg.proofs.Ends.{done_holds}
use Rattle.leg.proofs.Own.{right_among}
use Rattle.leg.specs.Accounts.{no_rises}
use Rattle.leg.specs.Deeds.{put_back}
use Rattle.leg.specs.Terms.{lent_terms}
use Rattle.leg.specs.declared.phases.Phase.TheVariants.{Returning}
use Rattle.leg.proofs.doors.put_back.Goals as goal

pub returns : goal.returns
returns g c = record {
  step = λ exact backend.
      let e = rw c.none.ensures at c.count.ensures in
      let same = ap (λ (n : DoorCounts). n.most) c.put.ensures.counts in
      let s = c.requires.stands in
      let held = c.args.held in
      let right = right_among g.W.World (lent_terms c.args.terms.now) c.args.task.now held.parts.address c.args.answer s.0 s.1 in
      record {
        law = record {
          deed = put_back;
          due = tt;
          goes = (refl, refl);
          account = e;
          looks = looks_stay c.args.terms.now.class no_rises held.given c.args.account.now c.count.new.self e;
          pool = c.put.ensures.plain;
          door_counts = c.put.ensures.counts;
          backend_moves = record { counts = refl; happened = refl };
          links = tt;
        };
        done = refl;
        holds = done_holds g.W.World g.S.Sitting (lent_terms c.args.terms.now) c.args.task.now _ _ (Returning held c.args.answer) c.args.answer held.given c.args.account.now c.count.new.self e same
            c.requires.kept.may c.requires.kept.session.1 right s.2 c.requires.kept.account c.requires.counts.within;
      };
}

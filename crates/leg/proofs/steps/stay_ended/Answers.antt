use Rattle.std.proofs.Common.{false, refl}
use Rattle.leg.specs.Accounts.{no_rises}
use Rattle.leg.specs.Deeds.{no_memory}
use Rattle.leg.specs.Terms.{lent_terms}
use Rattle.leg.specs.declared.phases.Phase.TheVariants.{Ended}
use Rattle.leg.proofs.AccountSteps.{looks_stay}
use Rattle.leg.proofs.Ends.{still_spoiled}
use Rattle.leg.proofs.steps.stay_ended.Goals as goal

pub returns : goal.returns
returns g c = record {
  step = λ now exact door backend.
      let e = rw c.none.ensures at c.count.ensures in
      let b = c.count.new.self in
      let k = c.requires.counts in
      let still = still_spoiled g.W.World g.S.Sitting (lent_terms c.args.terms.now) c.args.task.now door.counts.most Ended Ended c.args.account.now b e refl refl k.account k.within in
      record {
        law = record {
          deed = no_memory;
          due = tt;
          goes = (refl, refl);
          account = e;
          looks = looks_stay c.args.terms.now.class no_rises false c.args.account.now b e;
          pool = refl;
          door_counts = refl;
          backend_moves = record { counts = refl; happened = refl };
          links = tt;
        };
        done = refl;
        holds = record {
          kept = record { may = c.requires.kept.may; session = tt; account = still.0 };
          stands = tt;
          within = still.1;
        };
      };
}

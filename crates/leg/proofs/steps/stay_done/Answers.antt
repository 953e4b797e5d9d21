use Rattle.std.proofs.Common.{false, refl}
use Rattle.leg.specs.Accounts.{no_rises}
use Rattle.leg.specs.Deeds.{nothing}
use Rattle.leg.specs.Terms.{lent_terms}
use Rattle.leg.specs.declared.phases.Phase.TheVariants.{Done}
use Rattle.leg.proofs.AccountSteps.{looks_stay}
use Rattle.leg.proofs.Ends.{done_holds}
use Rattle.leg.proofs.steps.stay_done.Goals as goal

pub returns : goal.returns
returns g c = record {
  step = λ now exact door backend stands.
      let e = rw c.none.ensures at c.count.ensures in
      let b = c.count.new.self in
      record {
        law = record {
          deed = nothing;
          due = tt;
          goes = (refl, refl);
          account = e;
          looks = looks_stay c.args.terms.now.class no_rises false c.args.account.now b e;
          pool = refl;
          door_counts = refl;
          backend_moves = record { counts = refl; happened = refl };
          links = tt;
        };
        done = refl;
        holds = done_holds g.W.World g.S.Sitting (lent_terms c.args.terms.now) c.args.task.now door.counts.most door.counts.most (Done c.args.answer) c.args.answer false c.args.account.now b e refl
            c.requires.kept.may c.requires.kept.session stands.0 stands.1 c.requires.kept.account c.requires.counts.within;
      };
}

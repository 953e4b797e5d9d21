use Rattle.std.proofs.Common.{sym, subst, refl}
use Rattle.z_types.specs.declared.address.Address.{Address}
use Rattle.gw_outside.specs.Sessions.{LookCounts}
use Rattle.leg.specs.Deeds.{heard, rises_of}
use Rattle.leg.specs.Tasks.{want_of}
use Rattle.leg.proofs.AccountSteps.{looks_grow}
use Rattle.leg.proofs.Heards.{init_heard}
use Rattle.leg.proofs.opens.wait_for_init.Goals as goal

pub returns : goal.returns
returns g c = record {
  step = λ now door.
      let f = c.after_init.ensures.follows now door.counts.most in
      let l = c.look-heard.ensures in
      let deed = heard c.look-heard.result c.look-heard.new.session in
      let before = g.B.Watched.counts c.args.backend.now in
      let after = g.B.Watched.counts c.look-heard.new.self in
      record {
        law = record {
          deed = deed;
          due = record { fits = l.fits; worlds = l.worlds; waits = l.pending; address = l.address; made = l.made };
          goes = f.goes;
          account = f.account;
          looks = looks_grow c.args.terms.now.class (rises_of (want_of c.args.task.now) deed) c.args.held.given c.args.looks c.look-heard.result c.args.account.now c.after_init.new.account f.account c.requires.counts.account.most_looks;
          pool = refl;
          door_counts = refl;
          backend_moves = record {
            counts = subst (λ (x : Address). LookCounts g.B.Watched.exact (g.W.World.told x) c.look-heard.result before after) (sym l.address) l.counts;
            happened = l.happened;
          };
          links = l.steady;
        };
        done = f.done;
        holds = f.holds;
      };
}

pub after_init-requires-clause-heard : goal.after_init-requires-clause-heard
after_init-requires-clause-heard g c =
    let l = c.look-heard.ensures in
    init_heard g.W.World g.S.Sitting c.args.task.now c.args.held c.look-heard.new.session c.look-heard.result c.requires.kept.session l.fits l.pending l.made l.address

use Rattle.std.proofs.Common.{true, refl, subst, sym}
use Rattle.cache_backend.specs.declared.sessions.Awaited.TheVariants.{Run}
use Rattle.cache_backend.specs.Known.{known_under}
use Rattle.cache_backend.specs.Sessions.{KnowsBy, StandsBy}
use Rattle.cache_backend.specs.Steps.{Looks, view_by}
use Rattle.gw_outside.specs.declared.backends.Heard.TheVariants as heard
use Rattle.cache_backend.proofs.ViewLemmas.{gives_by}
use Rattle.cache_backend.proofs.backend.CachedBackend.give_run.Goals as goal

pub returns-clause-looks : goal.returns-clause-looks
returns-clause-looks g c =
    subst (λ a. Looks g.W.World true g.B.Watched.exact (view_by g.B.Session.Sitting (Run c.args.ask c.args.items) c.args.parts.now.inner) (view_by g.B.Session.Sitting a c.args.parts.now.inner)
    (record { counts = g.B.Watched.counts c.args.self.now.inner; happened = g.B.Watched.happened c.args.self.now.inner }) (record { counts = g.B.Watched.counts c.args.self.now.inner; happened = g.B.Watched.happened c.args.self.now.inner }) (heard.Items c.args.items)) (sym c.requires.beneath)
    (gives_by g.W.World g.B.Session.Sitting true g.B.Watched.exact c.args.ask c.args.items c.args.parts.now.inner
    (record { counts = g.B.Watched.counts c.args.self.now.inner; happened = g.B.Watched.happened c.args.self.now.inner }) c.requires.stands.1)

pub returns-clause-kept : goal.returns-clause-kept
returns-clause-kept g c = record {
  address = c.requires.address;
  stands = subst (λ a. StandsBy g.W.World g.B.Session.Sitting a c.args.parts.now.inner (known_under c.args.parts.now.searched.items)) (sym c.requires.beneath)
      (subst (λ p. KnowsBy p (g.B.Session.Sitting.made c.args.parts.now.inner) (known_under c.args.parts.now.searched.items)) (sym c.requires.stands.1.rests) c.requires.stands.0);
}

pub returns-clause-cached : goal.returns-clause-cached
returns-clause-cached g c = (record { awaits = c.requires.beneath; served = refl }, refl, refl, refl)

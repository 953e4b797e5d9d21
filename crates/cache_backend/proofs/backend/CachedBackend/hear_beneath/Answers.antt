use Rattle.std.proofs.Common.{true, ◌∙◌, refl, subst, sym}
use Rattle.cache_backend.specs.declared.sessions.Awaited.TheVariants.{Beneath}
use Rattle.cache_backend.specs.Known.{known_under}
use Rattle.cache_backend.specs.Sessions.{StandsBy}
use Rattle.cache_backend.proofs.StandLemmas.{look_stands}
use Rattle.cache_backend.proofs.ViewLemmas.{looks_by, plain_beneath}
use Rattle.cache_backend.proofs.backend.CachedBackend.hear_beneath.Goals as goal

pub returns-clause-looks : goal.returns-clause-looks
returns-clause-looks g c = looks_by g.W.World g.B.Session.Sitting g.B.Session.Sitting.keeps g.B.Watched.exact Beneath c.args.parts.now.awaited c.args.parts.now.inner c.look.new.session
    (record { counts = g.B.Watched.counts c.args.self.now.inner; happened = g.B.Watched.happened c.args.self.now.inner }) (record { counts = g.B.Watched.counts c.look.new.self; happened = g.B.Watched.happened c.look.new.self }) c.look.result tt (plain_beneath g.W.World g.B.Session.Sitting true g.B.Watched.exact c.args.parts.now.awaited c.requires.beneath) (record {
      fits = c.look.ensures.fits;
      worlds = c.look.ensures.worlds;
      pending = c.look.ensures.pending;
      made = c.look.ensures.made;
      address = c.look.ensures.address;
      happened = c.look.ensures.happened;
      steady = c.look.ensures.steady;
      counts = c.look.ensures.counts;
    })

pub returns-clause-kept : goal.returns-clause-kept
returns-clause-kept g c = record {
  address = c.requires.address ∙ sym c.look.ensures.address;
  stands = subst (λ a. StandsBy g.W.World g.B.Session.Sitting a c.look.new.session (known_under c.args.parts.now.searched.items)) (sym c.requires.beneath)
      (look_stands (g.B.Session.Sitting.pending c.args.parts.now.inner) (g.B.Session.Sitting.pending c.look.new.session) c.look.result (g.B.Session.Sitting.made c.args.parts.now.inner) (g.B.Session.Sitting.made c.look.new.session)
      (known_under c.args.parts.now.searched.items) c.requires.waits c.look.ensures.fits c.look.ensures.pending c.look.ensures.made c.requires.stands);
}

pub returns-clause-cached : goal.returns-clause-cached
returns-clause-cached g c = (record { awaits = c.requires.beneath; served = refl }, refl)

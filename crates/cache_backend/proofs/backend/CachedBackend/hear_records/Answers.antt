use Rattle.std.proofs.Common.{true, ◌∙◌, refl, subst, sym}
use Rattle.cache_backend.specs.declared.sessions.Awaited.TheVariants.{Records}
use Rattle.cache_backend.specs.Known.{known_under}
use Rattle.cache_backend.specs.Looks.{awaited_then}
use Rattle.cache_backend.specs.Sessions.{StandsBy}
use Rattle.cache_backend.specs.Steps.{Looks, view_by}
use Rattle.cache_backend.proofs.StandLemmas.{records_may, records_stand, then_same}
use Rattle.cache_backend.proofs.ViewLemmas.{looks_by, plain_then}
use Rattle.cache_backend.proofs.backend.CachedBackend.hear_records.Goals as goal

pub keep_heard-requires : goal.keep_heard-requires
keep_heard-requires g c = record {
  may = records_may g.W.World g.B.Session.Sitting c.args.key c.look-heard.result c.args.parts.now.inner c.requires.stands.1 c.look-heard.ensures.fits c.look-heard.ensures.worlds;
}

pub returns-clause-looks : goal.returns-clause-looks
returns-clause-looks g c =
    subst (λ a. Looks g.W.World true g.B.Watched.exact (view_by g.B.Session.Sitting (Records c.args.key) c.args.parts.now.inner) (view_by g.B.Session.Sitting a c.look-heard.new.session)
    (record { counts = g.B.Watched.counts c.args.self.now.inner; happened = g.B.Watched.happened c.args.self.now.inner }) (record { counts = g.B.Watched.counts c.look-heard.new.self; happened = g.B.Watched.happened c.look-heard.new.self }) c.look-heard.result)
    (sym (c.awaited_after.ensures ∙ then_same c.args.key c.keep_heard.new.key c.look-heard.result c.keep_heard.ensures.key))
    (looks_by g.W.World g.B.Session.Sitting g.B.Session.Sitting.keeps g.B.Watched.exact (Records c.args.key) (awaited_then c.args.key c.look-heard.result) c.args.parts.now.inner c.look-heard.new.session
    (record { counts = g.B.Watched.counts c.args.self.now.inner; happened = g.B.Watched.happened c.args.self.now.inner }) (record { counts = g.B.Watched.counts c.look-heard.new.self; happened = g.B.Watched.happened c.look-heard.new.self }) c.look-heard.result tt (plain_then c.args.key c.look-heard.result) (record {
      fits = c.look-heard.ensures.fits;
      worlds = c.look-heard.ensures.worlds;
      pending = c.look-heard.ensures.pending;
      made = c.look-heard.ensures.made;
      address = c.look-heard.ensures.address;
      happened = c.look-heard.ensures.happened;
      steady = c.look-heard.ensures.steady;
      counts = c.look-heard.ensures.counts;
    }))

pub returns-clause-kept : goal.returns-clause-kept
returns-clause-kept g c = record {
  address = c.requires.address ∙ sym c.look-heard.ensures.address;
  stands = subst (λ a. StandsBy g.W.World g.B.Session.Sitting a c.look-heard.new.session (known_under c.args.parts.now.searched.items))
      (sym (c.awaited_after.ensures ∙ then_same c.args.key c.keep_heard.new.key c.look-heard.result c.keep_heard.ensures.key))
      (records_stand g.W.World g.B.Session.Sitting c.args.key c.look-heard.result c.args.parts.now.inner c.look-heard.new.session (known_under c.args.parts.now.searched.items)
      c.requires.stands c.requires.waits c.look-heard.ensures.fits c.look-heard.ensures.pending c.look-heard.ensures.address c.look-heard.ensures.made);
}

pub returns-clause-cached : goal.returns-clause-cached
returns-clause-cached g c = (
  record {
    awaits = c.awaited_after.ensures ∙ then_same c.args.key c.keep_heard.new.key c.look-heard.result c.keep_heard.ensures.key;
    served = refl;
  },
  c.keep_heard.ensures.kept,
)

use Rattle.std.proofs.Common.{true, ◌∙◌, refl, subst, sym}
use Rattle.cache_backend.specs.Known.{known_under}
use Rattle.cache_backend.specs.Sessions.{StandsBy}
use Rattle.cache_backend.specs.Steps.{outside_of}
use Rattle.cache_backend.proofs.CachedLemmas.{search_cached}
use Rattle.cache_backend.proofs.StandLemmas.{knows_all, lacks_stands, search_stands}
use Rattle.cache_backend.proofs.ViewLemmas.{lacks_at, plain_beneath, starts_at}
use Rattle.cache_backend.proofs.backend.CachedBackend.search.Goals as goal

pub returns-in_default : goal.returns-in_default
returns-in_default g c = record {
  starts = lacks_at g.W.World g.B.Session.Sitting true g.B.Watched.exact c.args.parts.now.awaited c.break_off.new.awaited c.args.parts.now.inner c.args.ask.now
      (outside_of g.B.Watched c.args.self.now.inner) c.requires.beneath c.break_off.ensures;
  kept = record {
    address = c.requires.kept.address;
    stands = lacks_stands g.W.World g.B.Session.Sitting c.break_off.new.awaited c.args.parts.now.inner (known_under c.note.new.searched.items) c.break_off.ensures;
  };
  cached = search_cached _ _ _ _ c.args.ask.now c.args.name.now c.args.key.now _ c.requires.asks refl refl;
  octets = refl;
}

pub returns-clause-starts : goal.returns-clause-starts
returns-clause-starts g c = starts_at g.W.World g.B.Session.Sitting g.B.Session.Sitting.keeps g.B.Watched.exact c.args.parts.now.awaited c.args.parts.now.awaited c.args.parts.now.inner c.start.new.session c.args.ask.now
    (record { counts = g.B.Watched.counts c.args.self.now.inner; happened = g.B.Watched.happened c.args.self.now.inner }) (record { counts = g.B.Watched.counts c.start.new.self; happened = g.B.Watched.happened c.start.new.self }) c.start.result c.requires.beneath (plain_beneath g.W.World g.B.Session.Sitting true g.B.Watched.exact c.args.parts.now.awaited c.requires.beneath) (record {
      pending = c.start.ensures.pending;
      address = c.start.ensures.address;
      made = c.start.ensures.made;
      happened = c.start.ensures.happened;
      steady = c.start.ensures.steady;
      counts = c.start.ensures.counts;
    })

pub returns-clause-kept : goal.returns-clause-kept
returns-clause-kept g c = record {
  address = c.requires.kept.address ∙ sym c.start.ensures.address;
  stands = subst (λ a. StandsBy g.W.World g.B.Session.Sitting a c.start.new.session (known_under c.note.new.searched.items)) (sym c.requires.beneath)
      (search_stands (record { name = c.args.name.now; key = c.args.key.now }) c.args.parts.now.searched.items c.note.new.searched.items
      (g.B.Session.Sitting.made c.args.parts.now.inner) (g.B.Session.Sitting.made c.start.new.session) (g.B.Session.Sitting.pending c.start.new.session) c.args.ask.now c.start.result
      c.requires.asks c.in-Ok.ensures.ok c.start.ensures.pending c.start.ensures.made (knows_all g.W.World g.B.Session.Sitting c.args.parts.now.awaited c.args.parts.now.inner (known_under c.args.parts.now.searched.items) c.requires.kept.stands c.requires.beneath c.requires.rests));
}

pub returns-clause-cached : goal.returns-clause-cached
returns-clause-cached g c = search_cached _ _ _ _ c.args.ask.now c.args.name.now c.args.key.now _ c.requires.asks refl refl

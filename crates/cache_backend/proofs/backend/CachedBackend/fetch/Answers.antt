use Rattle.std.proofs.Common.{◌≡◌, ◌∙◌, refl, subst, sym}
use Rattle.cache_backend.specs.Known.{known_under}
use Rattle.cache_backend.specs.Looks.{awaited_from}
use Rattle.cache_backend.specs.Sessions.{StandsBy}
use Rattle.cache_backend.specs.Steps.{outside_of}
use Rattle.cache_backend.proofs.StandLemmas.{fetched_stands, knows_all}
use Rattle.cache_backend.proofs.ViewLemmas.{IsPlain, plain_from, starts_at}
use Rattle.cache_backend.proofs.backend.CachedBackend.fetch.Goals as goal

pub returns : goal.returns
returns g c =
    let w = g.W.World in
    let t = g.B.Session.Sitting in
    let parts = c.args.parts.now in
    let known = known_under parts.searched.items in
    let began = c.start-began in
    let is : c.wait_for.new.awaited ≡ awaited_from c.args.key began.result = c.wait_for.ensures ∙ c.awaited_from.ensures in
    record {
      starts =
          starts_at w t t.keeps g.B.Watched.exact parts.awaited c.wait_for.new.awaited parts.inner began.new.session c.args.ask.now
          (outside_of g.B.Watched c.args.self.now.inner) (outside_of g.B.Watched began.new.self) began.result c.requires.beneath
          (subst IsPlain (sym is) (plain_from c.args.key began.result)) (record {
            pending = c.start-began.ensures.pending;
            address = c.start-began.ensures.address;
            made = c.start-began.ensures.made;
            happened = c.start-began.ensures.happened;
            steady = c.start-began.ensures.steady;
            counts = c.start-began.ensures.counts;
          });
      kept = record {
        address = c.requires.kept.address ∙ sym began.ensures.address;
        stands = subst (λ a. StandsBy w t a began.new.session known) (sym is)
            (fetched_stands w t c.args.key c.args.ask.now parts.inner began.new.session known began.result c.requires.asks
            began.ensures.pending began.ensures.address began.ensures.made
            (knows_all w t parts.awaited parts.inner known c.requires.kept.stands c.requires.beneath c.requires.rests));
      };
      entries = refl;
      awaited = is;
      served = refl;
      octets = refl;
    }

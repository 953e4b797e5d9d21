use Rattle.std.proofs.Common.{true, ap, refl}
use Rattle.cache_backend.specs.Known.{known_under}
use Rattle.cache_backend.specs.Sessions.{count_of}
use Rattle.cache_backend.specs.Steps.{outside_of}
use Rattle.cache_backend.proofs.CachedLemmas.{present_cached, present_lacks}
use Rattle.cache_backend.proofs.PresentLemmas.{asks_key, has_key, its_key, its_set, key_is}
use Rattle.cache_backend.proofs.StandLemmas.{lacks_stands}
use Rattle.cache_backend.proofs.ViewLemmas.{lacks_at}
use Rattle.cache_backend.proofs.backend.CachedBackend.present.Goals as goal

pub first_key-requires : goal.first_key-requires
first_key-requires g c = record {
  known = rw c.as_slice-searched.ensures.value (has_key g.W.World g.B.Session.Sitting c.args.parts.now c.args.ask.now c.args.name.now c.args.first c.args.count c.args.syntax.now c.args.element.now c.requires.asks c.requires.may c.requires.beneath c.requires.rests c.requires.kept);
}

pub returns-in_default : goal.returns-in_default
returns-in_default g c = record {
  starts = lacks_at g.W.World g.B.Session.Sitting true g.B.Watched.exact c.args.parts.now.awaited c.break_off.new.awaited c.args.parts.now.inner c.args.ask.now
      (outside_of g.B.Watched c.args.self.now.inner) c.requires.beneath c.break_off.ensures;
  kept = record {
    address = c.requires.kept.address;
    stands = lacks_stands g.W.World g.B.Session.Sitting c.break_off.new.awaited c.args.parts.now.inner (known_under c.args.parts.now.searched.items) c.break_off.ensures;
  };
  cached = present_lacks _ _ _ _ c.args.ask.now c.args.name.now c.args.first c.args.count c.args.syntax.now c.args.element.now c.requires.asks refl;
  octets = refl;
}

pub present_from-requires : goal.present_from-requires
present_from-requires g c =
    let made = rw c.as_slice-searched.ensures.value at c.in-Ok.ensures in
    record {
      asks = asks_key g.W.World g.B.Session.Sitting c.args.parts.now c.args.ask.now c.args.name.now c.args.first c.args.count c.args.syntax.now c.args.element.now c.requires.asks c.requires.may c.requires.beneath c.requires.rests c.requires.kept
          c.in-Ok.key made;
      counts = ap count_of c.requires.asks;
      may = c.requires.may;
      beneath = c.requires.beneath;
      rests = c.requires.rests;
      kept = c.requires.kept;
    }

pub returns : goal.returns
returns g c =
    let made = rw c.as_slice-searched.ensures.value at c.in-Ok.ensures in
    record {
      starts = c.present_from.ensures.starts;
      kept = c.present_from.ensures.kept;
      cached =
          present_cached _ _ _ _ c.args.ask.now c.args.name.now c.args.first c.args.count c.args.syntax.now c.args.element.now
          (its_set g.W.World g.B.Session.Sitting c.args.parts.now c.args.ask.now c.args.name.now c.args.first c.args.count c.args.syntax.now c.args.element.now c.requires.asks c.requires.may c.requires.beneath c.requires.rests c.requires.kept).key
          c.in-Ok.key c.present_from.result c.requires.asks
          (its_key g.W.World g.B.Session.Sitting c.args.parts.now c.args.ask.now c.args.name.now c.args.first c.args.count c.args.syntax.now c.args.element.now c.requires.asks c.requires.may c.requires.beneath c.requires.rests c.requires.kept)
          (key_is g.W.World g.B.Session.Sitting c.args.parts.now c.args.ask.now c.args.name.now c.args.first c.args.count c.args.syntax.now c.args.element.now c.requires.asks c.requires.may c.requires.beneath c.requires.rests c.requires.kept
          c.in-Ok.key made)
          c.present_from.ensures.cached;
      octets = c.present_from.ensures.octets;
    }

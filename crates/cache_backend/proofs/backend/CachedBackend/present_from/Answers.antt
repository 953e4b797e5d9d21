use Rattle.std.proofs.Common.{[], true, refl, subst, sym}
use Rattle.record_cache.specs.declared.keys.RecordKey.{RecordKey}
use Rattle.record_cache.specs.Runs.{Runs}
use Rattle.cache_backend.specs.Known.{known_under}
use Rattle.cache_backend.specs.Sessions.{AsksFrom}
use Rattle.cache_backend.specs.Steps.{outside_of}
use Rattle.cache_backend.proofs.CachedLemmas.{none_served, some_served}
use Rattle.cache_backend.proofs.PresentLemmas.{has_run, positions}
use Rattle.cache_backend.proofs.StandLemmas.{lacks_stands}
use Rattle.cache_backend.proofs.ViewLemmas.{lacks_at}
use Rattle.cache_backend.proofs.backend.CachedBackend.present_from.Goals as goal

pub held_from-requires : goal.held_from-requires
held_from-requires g c = positions g.W.World g.B.Session.Sitting c.args.parts.now c.args.key c.args.count c.args.ask.now c.requires.asks c.requires.counts

pub give_next-requires : goal.give_next-requires
give_next-requires g c =
    let has = rw c.in-Ok-Items.field-0-is at c.in-Ok-Items.ensures in
    record {
      run = has_run g.W.World g.B.Session.Sitting c.args.parts.now c.args.key c.args.count c.args.ask.now c.requires.asks c.requires.counts
          (g.T.Store.entries c.args.self.now.store) (g.T.Store.entries c.held_from.new.store) c.in-Ok-Items.items c.requires.rests has;
      beneath = c.requires.beneath;
      kept = c.requires.kept;
    }

pub returns-in-Ok-Items : goal.returns-in-Ok-Items
returns-in-Ok-Items g c =
    let items = c.in-Ok-Items.items in
    let has = rw c.in-Ok-Items.field-0-is at c.in-Ok-Items.ensures in
    record {
      starts = c.give_next.ensures.starts;
      kept = c.give_next.ensures.kept;
      cached =
          some_served _ _ _ _ c.args.key c.args.count c.args.ask.now items c.give_next.result has.some
          (subst (λ e. Runs (g.T.Store.entries c.args.self.now.store) e c.args.key c.args.count items) (sym c.give_next.ensures.entries) has.run)
          c.give_next.ensures.given;
      octets = c.give_next.ensures.octets;
    }

pub fetch-requires : goal.fetch-requires
fetch-requires g c =
    let none = rw c.in-Ok-Nothing.field-0-is at c.in-Ok-Nothing.ensures in
    record {
      asks = subst (λ (k : RecordKey). AsksFrom g.B.Session.Sitting k c.args.ask.now c.args.parts.now.inner) (sym none.0) c.requires.asks;
      may = c.requires.may;
      beneath = c.requires.beneath;
      rests = c.requires.rests;
      kept = c.requires.kept;
    }

pub returns-in-Ok-Nothing : goal.returns-in-Ok-Nothing
returns-in-Ok-Nothing g c =
    let none = rw c.in-Ok-Nothing.field-0-is at c.in-Ok-Nothing.ensures in
    record {
      starts = c.fetch.ensures.starts;
      kept = c.fetch.ensures.kept;
      cached =
          none_served _ _ _ _ c.args.key c.in-Ok-Nothing.key c.args.count c.args.ask.now c.fetch.result none.0
          (subst (λ e. Runs (g.T.Store.entries c.args.self.now.store) e c.args.key c.args.count []) (sym c.fetch.ensures.entries) none.1)
          c.fetch.ensures.served c.fetch.ensures.awaited;
      octets = c.fetch.ensures.octets;
    }

pub returns-in-Err : goal.returns-in-Err
returns-in-Err g c = record {
  starts = lacks_at g.W.World g.B.Session.Sitting true g.B.Watched.exact c.args.parts.now.awaited c.break_off.new.awaited c.args.parts.now.inner c.args.ask.now
      (outside_of g.B.Watched c.args.self.now.inner) c.requires.beneath c.break_off.ensures;
  kept = record {
    address = c.requires.kept.address;
    stands = lacks_stands g.W.World g.B.Session.Sitting c.break_off.new.awaited c.args.parts.now.inner (known_under c.args.parts.now.searched.items) c.break_off.ensures;
  };
  cached = refl;
  octets = refl;
}

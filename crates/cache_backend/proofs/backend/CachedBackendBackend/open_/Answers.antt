use Rattle.std.proofs.Common.{◌∙◌, inl, sym}
use Rattle.cache_backend.proofs.StandLemmas.{new_stands}
use Rattle.cache_backend.proofs.ViewLemmas.{none_counted, none_less}
use Rattle.cache_backend.proofs.backend.CachedBackendBackend.open_.Goals as goal

pub returns-in_default : goal.returns-in_default
returns-in_default g c = record {
  session = tt;
  happened = none_less (g.B.Watched.happened c.args.self.now.inner);
  steady = λ told steady. tt;
  counts = inl (none_counted g.B.Watched.exact (Unit {0}) (g.B.Watched.counts c.args.self.now.inner));
}

pub invariant_of-result : goal.invariant_of-result
invariant_of-result g c = record {
  address = c.in-Ok.ensures ∙ sym c.in-Session.ensures.session.same_address;
  stands = new_stands _ _ _ c.in-Session.ensures.session.pending c.in-Session.ensures.session.made;
}

pub returns-in-Session : goal.returns-in-Session
returns-in-Session g c = record {
  session = record {
    same_address = c.in-Session.ensures.session.same_address;
    pending = c.in-Session.ensures.session.pending;
    made = c.in-Session.ensures.session.made;
  };
  happened = c.in-Session.ensures.happened;
  steady = λ told steady.
      let is = c.in-Session.ensures.steady told steady in record { number = is.number; delays = is.delays };
  counts = c.in-Session.ensures.counts;
}

use Rattle.cache_backend.proofs.backend.CachedBackendBackend.look.Goals as goal

pub hear-requires : goal.hear-requires
hear-requires g c = record { waits = rw c.session.view_is c.requires; kept = c.session.invariant }

pub invariant_of-session : goal.invariant_of-session
invariant_of-session g c = c.hear.ensures.kept

pub returns : goal.returns
returns g c = record {
  fits = rw (← c.session.view_is) c.hear.ensures.looks.fits;
  worlds = rw (← c.session.view_is) c.hear.ensures.looks.worlds;
  pending = rw (← c.session.view_is) c.hear.ensures.looks.pending;
  made = rw (← c.session.view_is) c.hear.ensures.looks.made;
  address = rw (← c.session.view_is) c.hear.ensures.looks.address;
  happened = c.hear.ensures.looks.happened;
  steady = rw (← c.session.view_is) c.hear.ensures.looks.steady;
  counts = rw (← c.session.view_is) c.hear.ensures.looks.counts;
  cached = rw (← c.session.view_is) c.hear.ensures.cached;
  octets = c.hear.ensures.octets;
}

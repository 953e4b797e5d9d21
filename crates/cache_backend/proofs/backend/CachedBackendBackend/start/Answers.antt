use Rattle.std.proofs.Common.{◌≡◌, subst, sym}
use Rattle.z_types.specs.Pending.{resting}
use Rattle.cache_backend.specs.Known.{known_under}
use Rattle.cache_backend.specs.Sessions.{pending_of}
use Rattle.cache_backend.proofs.StandLemmas.{beneath_rests, rests_beneath}
use Rattle.cache_backend.proofs.backend.CachedBackendBackend.start.Goals as goal

pub begin-requires : goal.begin-requires
begin-requires g c =
    let t = g.B.Session.Sitting in
    let parts = c.session.inside.parts in
    let rests : pending_of t parts ≡ resting = subst (λ p. pending_of t p ≡ resting) (sym c.session.view_is) c.requires.rests in
    let beneath = rests_beneath g.W.World t parts.awaited parts.inner (known_under parts.searched.items) c.session.invariant.stands rests in
    record {
      beneath = beneath;
      rests = beneath_rests g.W.World t parts.awaited parts.inner beneath rests;
      kept = c.session.invariant;
      may = rw c.session.view_is c.requires.may;
    }

pub invariant_of-session : goal.invariant_of-session
invariant_of-session g c = c.begin.ensures.kept

pub returns : goal.returns
returns g c = record {
  pending = c.begin.ensures.starts.pending;
  address = rw (← c.session.view_is) c.begin.ensures.starts.address;
  made = rw (← c.session.view_is) c.begin.ensures.starts.made;
  happened = c.begin.ensures.starts.happened;
  steady = rw (← c.session.view_is) c.begin.ensures.starts.steady;
  counts = c.begin.ensures.starts.counts;
  cached = rw (← c.session.view_is) c.begin.ensures.cached;
  octets = c.begin.ensures.octets;
}

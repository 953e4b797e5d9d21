use Rattle.std.proofs.Common.{◌≡◌, [], false, true, IsSome}
use Rattle.z_ber.specs.Due.{Stands}
use Rattle.gw_outside.specs.Counts.{WireCounts, nothing}
use Rattle.gw_outside.specs.Happened.{AreSame}
use Rattle.z_client.specs.Arrivals.{CameFrom, IsAwaited}
use Rattle.z_client.proofs.arrivals.await_unit.Given as goal

abbrev pub invariant-loop : goal.invariant-loop
invariant-loop g l = record {
  stands : Stands (g.N.Link.Linked.arrived l.link) l.scan.passed l.scan.opened;
  peer : g.N.Link.Linked.arrived l.fn.link ≡ []
      → CameFrom g.N.Watched.exact (g.N.Link.Linked.peer l.fn.link) (g.N.Link.Linked.peer l.link) (g.N.Link.Linked.arrived l.link)
      (g.N.Watched.counts l.fn.wire) (g.N.Watched.counts l.wire);
  steady : g.N.Link.Linked.arrived l.fn.link ≡ [] → IsSome (g.N.Link.Linked.peer l.fn.link) → (g.N.Watched.happened l.fn.wire).steady ≡ true
      → IsAwaited g.N.Link.Linked (g.N.Watched.happened l.fn.wire) l.fn.link l.link;
  happened : AreSame (g.N.Watched.happened l.fn.wire) (g.N.Watched.happened l.wire);
  counts : WireCounts false nothing (g.N.Watched.counts l.fn.wire) (g.N.Watched.counts l.wire);
}

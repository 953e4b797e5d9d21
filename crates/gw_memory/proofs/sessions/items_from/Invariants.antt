use Rattle.std.proofs.Common.{◌≡◌, ◌≤◌, length}
use Rattle.gw_outside.specs.Peers.{AreRecords}
use Rattle.gw_memory.proofs.sessions.items_from.Given as goal

abbrev pub invariant-loop-place : goal.invariant-loop-place
invariant-loop-place g l = record {
  so_far : length l.items ≡ l.place;
  some : 1 ≤ l.place;
  few : l.place ≤ l.count;
  records : AreRecords (λ position. g.T.World.record_ l.address l.key position l.syntax l.element) l.first l.items;
}

use Rattle.std.proofs.Common.{◌≡◌, drop}
use Rattle.gw_outside.specs.Peers.{held}
use Rattle.test_target.proofs.peers.Peer.held.Given as goal

abbrev pub invariant-loop-set : goal.invariant-loop-set
invariant-loop-set l = held (drop l.set-index l.set-items) l.name ≡ held l.set-items l.name

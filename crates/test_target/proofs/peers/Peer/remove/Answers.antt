use Rattle.std.proofs.Common.{rules, not}
use Rattle.std.proofs.lemmas.Fn.{filter_same}
use Rattle.z_types.specs.Same.{is_same}
use Rattle.gw_outside.specs.Peers.{NamedSet}
use Rattle.test_target.proofs.peers.Peer.remove.Goals as goal

pub returns-clause-sets : goal.returns-clause-sets
returns-clause-sets c =
    filter_same _ (λ (set : NamedSet). not (is_same set.0 c.args.name.now)) _ (λ x b q h. search rules) _ _ c.retain.ensures.filtered

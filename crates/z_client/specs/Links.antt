-- How the link of a session stands (this project's own)
use Rattle.std.specs.Prelude.{Bool, true, false, List, ℕ, Option, None, Some}
use Rattle.z_types.specs.Links.{LinkView}
use Rattle.z_types.specs.declared.key.SetKey.{SetKey}
use Rattle.gw_outside.specs.declared.links.Linked as linked
use Rattle.gw_outside.specs.Peers.{Peer, held}
use Rattle.gw_outside.specs.Wires.{owes_gone}

-- whether the target's end of a link holds a set of a name, where it is told
abbrev pub is_some : Option SetKey → Bool
is_some None = false
is_some (Some key) = true

abbrev pub holds : Option Peer → List ℕ → Bool
holds None name = false
holds (Some peer) name = is_some (held peer.sets name)

-- a link, as its session sees it
abbrev pub link_of : {L : Type 0} → linked.Ghosts L → L → LinkView
link_of l link = record {
  number = l.number link;
  delays = l.delays link;
  holds = holds (l.peer link);
  gone = owes_gone (l.peer link);
}

-- What a link of the edge tells: one with a test target what that link tells, a socket nothing but
-- what arrived (this project's own)
use Rattle.std.specs.Prelude.{ℕ, List, [], Option, None, Some}
use Rattle.gw_outside.specs.Peers.{Peer}
use Rattle.test_wire.specs.Links.{peer_of, delays_of}
use Rattle.tcp_edge.specs.declared.links.EdgeLink.{EdgeLink}
use Rattle.tcp_edge.specs.declared.links.EdgeLink.TheVariants.{Test, Tcp, Prompt}

abbrev pub arrived_at : EdgeLink → List ℕ
arrived_at (Test link) = link.arrived.items
arrived_at (Tcp link) = link.arrived.items
arrived_at (Prompt link) = link.link.arrived.items

abbrev pub peer_at : EdgeLink → Option Peer
peer_at (Test link) = Some (peer_of link.peer link.owed.items)
peer_at (Tcp link) = None
peer_at (Prompt link) = None

abbrev pub number_of : EdgeLink → ℕ
number_of (Test link) = link.number
number_of (Tcp link) = link.number
number_of (Prompt link) = link.link.number

abbrev pub delays_at : EdgeLink → List ℕ
delays_at (Test link) = delays_of link.owed.items
delays_at (Tcp link) = []
delays_at (Prompt link) = []

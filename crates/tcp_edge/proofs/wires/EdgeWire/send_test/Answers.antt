use Rattle.std.proofs.Common.{refl}
use Rattle.test_wire.specs.Wires.{happened_of}
use Rattle.tcp_edge.specs.declared.links.EdgeLink.TheVariants as Edge
use Rattle.tcp_edge.proofs.WireLemmas.{sends_unsteady}
use Rattle.tcp_edge.proofs.wires.EdgeWire.send_test.Goals as goal

pub returns-clause-steady : goal.returns-clause-steady
returns-clause-steady g c =
    sends_unsteady _ _ c.args.unit.now _ _ (Edge.Test c.args.link.now) (Edge.Test c.send.new.link) (happened_of c.args.self.now.test) (happened_of c.send.new.self)
    c.send.result refl refl refl c.send.ensures.steady

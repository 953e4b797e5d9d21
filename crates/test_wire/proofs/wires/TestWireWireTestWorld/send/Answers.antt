use Rattle.std.proofs.Common.{refl}
use Rattle.test_wire.proofs.SteadyLemmas.{sends}
use Rattle.test_wire.specs.Steady.{happened_in_all}
use Rattle.test_wire.specs.Wires.{is_none}
use Rattle.test_wire.proofs.wires.TestWireWireTestWorld.send.Goals as goal

pub returns-clause-steady : goal.returns-clause-steady
returns-clause-steady c =
    sends _ (is_none c.args.self.now.calls.failing) (happened_in_all c.args.self.now.links) (happened_in_all c.send.new.self)
    (λ e. refl) _ _ _ _ c.send.ensures.steady

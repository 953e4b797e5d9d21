use Rattle.test_wire.proofs.WireLemmas.{arrives}
use Rattle.test_wire.proofs.steady.SteadyWireWireTestWorld.look.Goals as goal

pub returns-in-Some-clause-fits : goal.returns-in-Some-clause-fits
returns-in-Some-clause-fits c =
    arrives _ _ _ _ _ c.in-Some.owed _ _ c.arrive.result c.in-Some.ensures c.arrive.ensures.unit c.arrive.ensures.arrived c.arrive.ensures.peer c.arrive.ensures.owed

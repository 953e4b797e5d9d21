use Rattle.event_memory.specs.Accepts.{AreUntouched}
use Rattle.event_memory.specs.contracts.sources.MemoryEdgeSourceEdgeSource.TheImpl as source
use Rattle.event_memory.specs.contracts.sinks.MemoryEdgeSinkEdgeSink.TheImpl as sink
use Rattle.event_tests.proofs.fronts.clients_of.Given as goal

-- nothing of the clients so far was read or written
abbrev pub invariant-client : goal.invariant-client
invariant-client l = AreUntouched source.ghosts sink.ghosts l.clients

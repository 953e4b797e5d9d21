use Rattle.gw_memory.specs.Accepts.{AreUntouched}
use Rattle.gw_memory.specs.contracts.sources.MemorySourceSource.TheImpl as source
use Rattle.gw_memory.specs.contracts.sinks.MemorySinkSink.TheImpl as sink
use Rattle.threads_tests.proofs.clients.worker.Given as goal

abbrev pub invariant-loop : goal.invariant-loop
invariant-loop l = AreUntouched source.ghosts sink.ghosts l.connections

use Rattle.gw_memory.specs.Accepts.{AreUntouched}
use Rattle.gw_memory.specs.contracts.sources.MemorySourceSource.TheImpl as source
use Rattle.gw_memory.specs.contracts.sinks.MemorySinkSink.TheImpl as sink
use Rattle.serve_tests.proofs.workers.connections_of.Given as goal

abbrev pub invariant-loop-case : goal.invariant-loop-case
invariant-loop-case l = AreUntouched source.ghosts sink.ghosts l.connections

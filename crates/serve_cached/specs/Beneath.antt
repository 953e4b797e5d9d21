-- Workers over a store (this project's own)
use Rattle.cache_backend.specs.declared.backend.CachedBackend.{CachedBackend}
use Rattle.serve_threads.specs.serve.declared.working.Worker.{Worker}

-- a worker with the backend that is beneath its own
abbrev pub beneath : {W B T A C : Type 0} → Worker (CachedBackend W B T) A C → Worker B A C
beneath worker = record {
  backend = worker.backend.inner;
  accept = worker.accept;
  clock = worker.clock;
  served = worker.served;
}

use Rattle.std.proofs.Common.{◌≡◌, ◌+◌, ◌≤◌, ◌++◌, map, reverse, vec_len, vec_capacity}
use Rattle.serve_cached.specs.Beneath.{beneath}
use Rattle.serve_cached.proofs.moving.take_back.Given as goal

abbrev pub decreases-loop-worker : goal.decreases-loop-worker
decreases-loop-worker g l = vec_len l.cached

abbrev pub invariant-loop-worker : goal.invariant-loop-worker
invariant-loop-worker g l = record {
  moved : l.workers.items ++ reverse (map beneath l.cached.items) ≡ l.fn.workers.items ++ reverse (map beneath l.fn.cached.items);
  room : vec_len l.workers + vec_len l.cached ≤ vec_capacity l.workers;
}

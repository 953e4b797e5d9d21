use Rattle.std.proofs.Common.{◌≡◌, ◌+◌, ◌≤◌, ◌++◌, map, reverse, vec_len, vec_capacity}
use Rattle.serve_cached.specs.Beneath.{beneath}
use Rattle.serve_cached.proofs.moving.over_store.Given as goal

abbrev pub decreases-loop-worker : goal.decreases-loop-worker
decreases-loop-worker g l = vec_len l.workers

abbrev pub invariant-loop-worker : goal.invariant-loop-worker
invariant-loop-worker g l = record {
  moved : l.workers.items ++ reverse (map beneath l.cached.items) ≡ l.fn.workers.items;
  room : vec_len l.workers + vec_len l.cached ≤ vec_capacity l.cached;
  long : vec_len l.workers + vec_len l.cached ≡ vec_len l.fn.workers;
  kept : vec_capacity l.workers ≡ vec_capacity l.fn.workers;
}

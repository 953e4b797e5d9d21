use Rattle.std.proofs.Common.{◌≡◌, ◌+◌, ◌≤◌, ◌++◌, map, reverse, vec_len, vec_capacity}
use Rattle.std.specs.List.{AllByRecursion}
use Rattle.serve_threads.specs.steps.Jobs.{amounts}
use Rattle.serve_threads.proofs.moving.make_jobs.Given as goal

abbrev pub decreases-loop-worker : goal.decreases-loop-worker
decreases-loop-worker g l = vec_len l.workers

abbrev pub invariant-loop-worker : goal.invariant-loop-worker
invariant-loop-worker g l = record {
  moved : l.workers.items ++ reverse (map (λ j. j.worker) l.jobs.items) ≡ l.fn.workers.items;
  room : vec_len l.workers + vec_len l.jobs ≤ vec_capacity l.jobs;
  kept : vec_capacity l.workers ≡ vec_capacity l.fn.workers;
  nothing : AllByRecursion (λ j. amounts j.fulls.amount j.opens.amount j.booked.amount ≡ amounts 0 0 0) l.jobs.items;
  amounts : (l.booked.amount ≡ 0) × (l.fulls.amount ≡ 0) × (l.opens.amount ≡ 0);
  booked_parts : l.booked.parts + vec_len l.fn.workers ≡ l.fn.booked.parts + vec_len l.workers;
  fulls_parts : l.fulls.parts + vec_len l.fn.workers ≡ l.fn.fulls.parts + vec_len l.workers;
  opens_parts : l.opens.parts + vec_len l.fn.workers ≡ l.fn.opens.parts + vec_len l.workers;
}

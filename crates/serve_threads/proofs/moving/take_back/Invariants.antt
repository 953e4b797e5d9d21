use Rattle.std.proofs.Common.{◌≡◌, ◌+◌, ◌≤◌, ◌++◌, map, reverse, vec_len, vec_capacity}
use Rattle.std.specs.List.{sum_by}
use Rattle.serve_threads.proofs.moving.take_back.Given as goal

abbrev pub decreases-loop-job : goal.decreases-loop-job
decreases-loop-job g l = vec_len l.jobs

abbrev pub invariant-loop-job : goal.invariant-loop-job
invariant-loop-job g l = record {
  moved : l.workers.items ++ reverse (map (λ j. j.worker) l.jobs.items) ≡ l.fn.workers.items ++ reverse (map (λ j. j.worker) l.fn.jobs.items);
  room : vec_len l.workers + vec_len l.jobs ≤ vec_capacity l.workers;
  booked : l.booked.amount + sum_by (λ j. j.booked.amount) l.jobs.items ≡ l.fn.booked.amount + sum_by (λ j. j.booked.amount) l.fn.jobs.items;
  fulls : l.fulls.amount + sum_by (λ j. j.fulls.amount) l.jobs.items ≡ l.fn.fulls.amount + sum_by (λ j. j.fulls.amount) l.fn.jobs.items;
  opens : l.opens.amount + sum_by (λ j. j.opens.amount) l.jobs.items ≡ l.fn.opens.amount + sum_by (λ j. j.opens.amount) l.fn.jobs.items;
  booked_parts : l.fn.booked.parts + vec_len l.fn.jobs ≤ l.booked.parts + vec_len l.jobs;
  fulls_parts : l.fn.fulls.parts + vec_len l.fn.jobs ≤ l.fulls.parts + vec_len l.jobs;
  opens_parts : l.fn.opens.parts + vec_len l.fn.jobs ≤ l.opens.parts + vec_len l.jobs;
  bound : (l.booked.parts ≤ g.L.Ledger.parts) × (l.fulls.parts ≤ g.M.Ledger.parts) × (l.opens.parts ≤ g.O.Ledger.parts);
}

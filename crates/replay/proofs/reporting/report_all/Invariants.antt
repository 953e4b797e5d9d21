use Rattle.std.proofs.Common.{◌≡◌, ◌≤◌, ℕ}
use Rattle.replay.specs.Clients.{client_at}
use Rattle.replay.specs.Trace.{AreReported, costs_upto}
use Rattle.replay.proofs.reporting.report_all.Given as goal

-- the clients up to a place are reported, and the others are as they were
abbrev pub invariant-loop-place : goal.invariant-loop-place
invariant-loop-place g l = record {
  others : (other : ℕ) → l.place ≤ other → client_at l.clients other ≡ client_at l.fn.clients other;
  reports : AreReported l.place l.fn.clients l.reports;
  costs : l.costs ≡ costs_upto l.place l.fn.clients l.fn.costs;
}

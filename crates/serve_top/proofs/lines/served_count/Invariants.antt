use Rattle.std.proofs.Common.{◌≡◌, ◌+◌, ◌*◌, ◌^◌, ◌≤◌, drop}
use Rattle.serve_top.specs.Lines.{served_count}
use Rattle.serve_top.proofs.lines.served_count.Given as goal

-- what is counted so far, and the connections of the workers that are left
abbrev pub invariant-loop-worker : goal.invariant-loop-worker
invariant-loop-worker g l = record {
  counted : l.count + served_count (drop l.worker-index l.workers) ≡ served_count l.workers;
  small : l.count ≤ l.worker-index * 2 ^ 64;
}

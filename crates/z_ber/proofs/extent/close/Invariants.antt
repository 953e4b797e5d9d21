use Rattle.std.proofs.Common.{◌≡◌, ◌+◌, ◌<◌, ◌≤◌, ℕ, suc, length}
use Rattle.z_ber.specs.Reading.{close_at}
use Rattle.z_ber.proofs.extent.close.Given as goal

abbrev pub invariant-loop-opened : goal.invariant-loop-opened
invariant-loop-opened l = record {
  few : l.opened + l.room ≤ 64;
  on : (n : ℕ) × (length l.rest < n) × (close_at (suc (length l.initial.rest)) l.initial.opened l.initial.room l.initial.rest ≡ close_at n l.opened l.room l.rest);
}

abbrev pub decreases-loop-opened : goal.decreases-loop-opened
decreases-loop-opened l = length l.rest

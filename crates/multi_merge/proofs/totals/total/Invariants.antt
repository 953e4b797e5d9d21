use Rattle.std.proofs.Common.{◌≡◌, ◌-◌, ◌^◌, take}
use Rattle.std.specs.Prelude.{min, sum}
use Rattle.multi_merge.proofs.totals.total.Given as goal

abbrev pub invariant-loop-n : goal.invariant-loop-n
invariant-loop-n l = l.sum ≡ min (sum (take l.n-index l.hits)) (2 ^ 64 - 1)

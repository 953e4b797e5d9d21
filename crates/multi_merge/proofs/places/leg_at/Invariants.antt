use Rattle.std.proofs.Common.{◌≡◌, drop, slice_get}
use Rattle.z_types.specs.MergedOrder.{of_rank, of_rank_from}
use Rattle.multi_merge.proofs.places.leg_at.Given as goal

abbrev pub invariant-loop-n : goal.invariant-loop-n
invariant-loop-n l = record {
  counted : l.leg ≡ l.n-index;
  behind : slice_get (of_rank_from l.leg (drop l.leg l.hits) l.rank) l.left ≡ slice_get (of_rank l.hits l.rank) l.before;
}

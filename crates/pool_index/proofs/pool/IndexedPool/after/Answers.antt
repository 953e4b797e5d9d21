use Rattle.std.proofs.Common.{arith}
use Rattle.std.proofs.lemmas.List.Elements.{All-nil}
use Rattle.pool_core.specs.PoolView.{Rests}
use Rattle.pool_index.proofs.pool.IndexedPool.after.Goals as goal

pub invariant_of-result : goal.invariant_of-result
invariant_of-result g c = rw c.new.ensures (record {
  rests = All-nil (Rests g.S.Sitting);
  ascends = omega arith;
  bound = omega arith;
  few = omega arith;
})

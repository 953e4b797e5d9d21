use Rattle.std.proofs.Common.{arith}
use Rattle.pool_index.proofs.register.Register.new.Goals as goal

pub invariant_of-result : goal.invariant_of-result
invariant_of-result g c = rw (c.new.ensures, c.new-3.ensures.items) (record {
  few = omega arith;
  found = λ k o w. absurd (omega arith);
  right = λ k t w. absurd (omega arith);
})

use Rattle.std.proofs.Common.{arith}
use Rattle.pool_core.proofs.Dialled.{pool_more}
use Rattle.pool_index.proofs.pool.IndexedPool.dial_again.Goals as goal

pub invariant_of-self : goal.invariant_of-self
invariant_of-self g c =
    pool_more g.S.Sitting c.self.inside.register.sessions c.self.inside.given c.self.inside.opens c.saturating_add-self-inside.result (omega arith) c.self.invariant

use Rattle.pool_core.proofs.Dialled.{pool_without}
use Rattle.pool_index.proofs.pool.IndexedPool.drop_number.Goals as goal

pub invariant_of-self : goal.invariant_of-self
invariant_of-self g c =
    rw c.drop_number.ensures (pool_without g.S.Sitting c.in-Some.number c.self.inside.register.sessions c.self.inside.given c.self.inside.opens c.self.invariant)

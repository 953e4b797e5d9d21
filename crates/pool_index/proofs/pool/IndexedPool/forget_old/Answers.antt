use Rattle.pool_core.proofs.Kept.{pool_expires}
use Rattle.pool_index.proofs.pool.IndexedPool.forget_old.Goals as goal

pub invariant_of-self : goal.invariant_of-self
invariant_of-self g c =
    rw c.expire.ensures (pool_expires g.S.Sitting c.args.now c.self.inside.register.session_ttl c.self.inside.register.set_ttl c.self.inside.register.sessions c.self.inside.given c.self.inside.opens c.self.invariant)

use Rattle.std.proofs.Common.{not}
use Rattle.pool_sets.specs.Plain.{is_seat}
use Rattle.pool_core.proofs.Kept.{pool_filters}
use Rattle.pool_index.proofs.pool.IndexedPool.drop_seat.Goals as goal

pub invariant_of-self : goal.invariant_of-self
invariant_of-self g c = rw c.drop_seat.ensures (pool_filters g.S.Sitting (λ o. not (is_seat c.args.seat.now o)) c.self.inside.register.sessions c.self.inside.given c.self.inside.opens c.self.invariant)

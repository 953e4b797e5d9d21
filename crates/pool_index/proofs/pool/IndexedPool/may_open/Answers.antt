use Rattle.std.proofs.Common.{ap, nat_lt}
use Rattle.pool_index.proofs.pool.IndexedPool.may_open.Goals as goal

pub returns : goal.returns
returns g c = rw (← c.self.view_is) (ap (λ n. nat_lt n c.self.inside.max_sessions) c.open_in.ensures.count)

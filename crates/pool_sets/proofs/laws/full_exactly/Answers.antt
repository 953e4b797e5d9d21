use Rattle.pool_sets.proofs.PoolLawLemmas.{full_exactly}
use Rattle.pool_sets.proofs.laws.full_exactly.Goals as goal

pub returns : goal.returns
returns g c = full_exactly

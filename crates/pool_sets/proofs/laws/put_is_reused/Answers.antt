use Rattle.pool_sets.proofs.PoolLawLemmas.{put_reused}
use Rattle.pool_sets.proofs.laws.put_is_reused.Goals as goal

pub returns : goal.returns
returns g c = put_reused

use Rattle.std.proofs.Common.{rules}
use Rattle.std.proofs.lemmas.List.Sorted.{IsPartitionPoint-from_clause, IsPartitionedBy-ltb}
use Rattle.pool_keys.specs.Pairs.{rank, is_before}
use Rattle.pool_keys.proofs.index.place.Goals as goal

pub returns-clause-point : goal.returns-clause-point
returns-clause-point c =
    IsPartitionPoint-from_clause (is_before c.args.pair) c.args.pairs.now c.partition_point.result c.partition_point.ensures.partitioned
    (IsPartitionedBy-ltb rank c.args.pairs.now (rank c.args.pair) c.requires.order) (λ a r f h. search rules)

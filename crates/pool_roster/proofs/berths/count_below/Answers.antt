use Rattle.std.proofs.Common.{rules, nat_lt}
use Rattle.std.proofs.lemmas.List.Sorted.{IsPartitionPoint-from_clause, IsPartitionedBy-ltb}
use Rattle.pool_roster.proofs.Seeking.{not_falling}
use Rattle.pool_roster.proofs.berths.count_below.Goals as goal

pub returns-clause-point : goal.returns-clause-point
returns-clause-point g c =
    IsPartitionPoint-from_clause (λ b. nat_lt b.session.number c.args.number) c.args.berths.now c.partition_point.result c.partition_point.ensures.partitioned
    (IsPartitionedBy-ltb (λ b. b.session.number) c.args.berths.now c.args.number (not_falling c.args.berths.now c.requires.order)) (λ a r f h. search rules)

use Rattle.cql_map.proofs.KeepsMeaning.{mapped_kept}
use Rattle.cql_map.proofs.map.to_rpn.Goals as goal

pub returns-clause-kept : goal.returns-clause-kept
returns-clause-kept c =
    mapped_kept c.args.indexes.now c.args.query.now c.in_ok-root.root (rw c.as_slice.ensures at c.in_ok-root.ensures.exact)

use Rattle.std.proofs.lemmas.Result.{err_from_is_err_and}
use Rattle.cql_map.proofs.FaultLemmas.{head_relation}
use Rattle.cql_map.proofs.head.read_head.Goals as goal

pub returns-in_err-row-clause-refused : goal.returns-in_err-row-clause-refused
returns-in_err-row-clause-refused c =
    let p = err_from_is_err_and c.from_residual-in_err-row.result c.from_residual-in_err-row.ensures.1 in
    rw (p.1, p.2) (head_relation c.args.indexes.now c.args.head.now c.in_ok-value.value c.in_err-row.field-0.0 (rw c.as_slice.ensures at c.in_ok-value.ensures.value) c.in_err-row.ensures.refused)

use Rattle.std.proofs.Common.{ap, Some}
use Rattle.locked_tests.proofs.HolderLemmas.{one_kept}
use Rattle.locked_tests.proofs.holders.holder_of.Goals as goal

pub join-requires : goal.join-requires
join-requires c =
    one_kept _ _ _ c.args.key.now c.in_ok-copy.field-0 c.args.now c.record_.new.self c.in_ok-table.table _ c.in_ok-copy.ensures c.in_ok-table.ensures c.in_ok-record_.ensures.ok (ap (λ k. Some (k, 3)) c.in_ok-copy-3.ensures) (λ told. told) c.in_ok-copy-2.ensures

use Rattle.pool_tests.proofs.KeyLemmas.{may_search_number}
use Rattle.pool_tests.proofs.sessions.key_for.Goals as goal

pub returns : goal.returns
returns c =
    may_search_number c.in_ok-attr_set.attr_set c.new-2.result c.new.result c.leaf-root.result _ c.new-2.ensures c.new.ensures c.leaf-root.ensures

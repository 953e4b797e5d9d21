use Rattle.std.proofs.Common.{◌∙◌, sym}
use Rattle.pool_tests.proofs.KeyLemmas.{one_kept}
use Rattle.pool_tests.proofs.sessions.session_holding.Goals as goal

pub join-requires : goal.join-requires
join-requires g c =
    one_kept g.W.World g.B.Session.Sitting c.search.new.session c.args.key.now c.in_ok-copy.field-0 c.in_ok-hits.hits c.args.now c.record_.new.self c.in_ok-table.table c.in_ok-address.address c.in_ok-copy.ensures c.in_ok-table.ensures c.in_ok-record_.ensures.ok c.in_ok-hits.ensures.count c.in_ok-hits.ensures.made c.in_ok-hits.ensures.right (c.in_ok-hits.ensures.address ∙ c.in_ok-session.ensures.address ∙ sym c.in_ok-address.ensures)

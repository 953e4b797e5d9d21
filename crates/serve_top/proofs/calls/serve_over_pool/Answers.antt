use denote.Param.{param}
use mir.Syntax.{of_param}
use Rattle.std.proofs.Common.{Some, [], ap, sym}
use Rattle.std.proofs.lemmas.List.Elements.{length_all_zip}
use Rattle.pool_keys.specs.contracts.digest.KeyDigest as key_digest
use Rattle.pool_keys.specs.contracts.digest.KeyDigestDigest.TheImpl as digest
use Rattle.pool_crossing.proofs.Crosses.{indexed_send, unseen_quiet}
use Rattle.pool_core.specs.PoolView.{pool_of}
use Rattle.pool_locked.specs.Books.{counts_of}
use Rattle.route_config.specs.declared.route.Route.{Route}
use Rattle.serve_top.proofs.calls.serve_over_pool.Goals as goal

pub serve_all-worked-requires-send-P : goal.serve_all-worked-requires-send-P
serve_all-worked-requires-send-P g c κs within =
    let f = indexed_send (param 1 g.row.W) (param 5 g.row.B-Session) key_digest.the_row g.W.World g.B.Session.Sitting digest.ghosts c.type_bounds.send-B-Session in
    record { owned = f.owned; leaving = λ k x w. unseen_quiet (k (of_param 3)) x w }

pub serve_all-worked-requires-clause-pool : goal.serve_all-worked-requires-clause-pool
serve_all-worked-requires-clause-pool g c κs within =
    rw c.after-pool.ensures (ap (λ (r : Route). Some (pool_of r.pool 0 [])) c.parts-2.ensures.same)

pub serve_all-worked-requires-clause-new : goal.serve_all-worked-requires-clause-new
serve_all-worked-requires-clause-new g c κs within =
    rw c.after-pool.ensures (ap (λ (r : Route). counts_of r.pool.max_sessions 0 0 0) c.parts-2.ensures.same)

pub returns : goal.returns
returns g c = record {
  served = c.serve_all-worked.ensures.served;
  len = sym (length_all_zip _ _ _ c.serve_all-worked.ensures.served.each);
}

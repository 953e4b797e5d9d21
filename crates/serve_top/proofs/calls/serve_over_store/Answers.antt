use denote.Param.{param}
use mir.Syntax.{of_param}
use Rattle.std.proofs.Common.{Some, [], ap, refl, sym}
use Rattle.std.proofs.lemmas.List.Elements.{length_all_zip}
use Rattle.pool_keys.specs.contracts.digest.KeyDigest as key_digest
use Rattle.pool_keys.specs.contracts.digest.KeyDigestDigest.TheImpl as digest
use Rattle.cache_backend.specs.contracts.sessions.CachedSession as cached
use Rattle.cache_crossing.proofs.Crosses.{session_send}
use Rattle.pool_crossing.proofs.Crosses.{indexed_send, unseen_quiet}
use Rattle.pool_core.specs.PoolView.{pool_of}
use Rattle.pool_locked.specs.Books.{counts_of}
use Rattle.route_config.specs.declared.route.Route.{Route}
use Rattle.serve_cached.proofs.serve_threads.Together.{same-workers}
use Rattle.serve_top.proofs.calls.serve_over_store.Goals as goal

pub serve_all_cached-worked-requires-send-P : goal.serve_all_cached-worked-requires-send-P
serve_all_cached-worked-requires-send-P g c κs within =
    let s = session_send (param 1 g.row.W) (param 5 g.row.B-Session) g.W.World g.B.Session.Sitting c.type_bounds.send-B-Session in
    let f = indexed_send (param 1 g.row.W) (cached.the_row (param 1 g.row.W) (param 5 g.row.B-Session) g.W.World g.B.Session.Sitting)
    key_digest.the_row g.W.World _ digest.ghosts s in
    record { owned = f.owned; leaving = λ k x w. unseen_quiet (k (of_param 3)) x w }

pub serve_all_cached-worked-requires-clause-pool : goal.serve_all_cached-worked-requires-clause-pool
serve_all_cached-worked-requires-clause-pool g c κs within =
    rw c.after-pool.ensures (ap (λ (r : Route). Some (pool_of r.pool 0 [])) c.parts.ensures.same)

pub serve_all_cached-worked-requires-clause-new : goal.serve_all_cached-worked-requires-clause-new
serve_all_cached-worked-requires-clause-new g c κs within =
    rw c.after-pool.ensures (ap (λ (r : Route). counts_of r.pool.max_sessions 0 0 0) c.parts.ensures.same)

pub returns : goal.returns
returns g c = record {
  served = c.serve_all_cached-worked.ensures.served;
  len = sym (length_all_zip _ _ _ c.serve_all_cached-worked.ensures.served.each);
}

pub returns-in_default : goal.returns-in_default
returns-in_default g c = record {
  served = same-workers g.W.World g.A.In.Source g.A.Out.Sink g.A.Accept g.B.Watched c.args.route.now c.args.route.now.pool.max_sessions _ _ refl;
  len = refl;
}

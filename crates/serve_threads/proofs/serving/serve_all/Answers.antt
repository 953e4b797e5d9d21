use Rattle.std.proofs.Common.{◌∙◌, ap, is_some, subst, sym}
use Rattle.route_config.specs.declared.route.Route.{Route}
use Rattle.pool_locked.specs.Books.{counts_of}
use Rattle.serve_threads.specs.Serving.{HaveServed}
use Rattle.serve_threads.proofs.serving.serve_all.Goals as goal

pub serve_over-requires-clause-told : goal.serve_over-requires-clause-told
serve_over-requires-clause-told g c κs within = ap is_some c.requires.pool

pub serve_over-requires-clause-new : goal.serve_over-requires-clause-new
serve_over-requires-clause-new g c κs within =
    c.requires.new ∙ ap (λ (r : Route). counts_of r.pool.max_sessions 0 0 0) (sym c.parts.ensures.same)

pub returns-clause-served : goal.returns-clause-served
returns-clause-served g c =
    subst
    (λ (r : Route).
    HaveServed g.W.World g.A.In.Source g.A.Out.Sink g.A.Accept g.B.Watched c.args.route.now r.pool.max_sessions
    c.args.workers.now.items c.serve_over.new.workers.items c.serve_over.result.0)
    c.parts.ensures.same c.serve_over.ensures.served

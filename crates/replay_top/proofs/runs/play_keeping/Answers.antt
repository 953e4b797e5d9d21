use Rattle.std.proofs.Common.{rules}
use Rattle.z_client.specs.contracts.session.ZSessionSitting.TheImpl as sitting
use Rattle.replay_top.proofs.ReportLemmas.{keeping_ok}
use Rattle.replay_top.proofs.RunLemmas.{lent_untroubled, lent_through_at, lent_borne, lent_shares}
use Rattle.replay_top.proofs.runs.play_keeping.Goals as goal

pub returns-clause-played : goal.returns-clause-played
returns-clause-played g c =
    keeping_ok g.W.World
    (sitting.ghosts g.row.W g.row.N-Link g.W.World g.W.World-dict g.N.Link.Linked g.N.Link.Linked-dict g.W.Destruct-dict g.N.Link.Destruct-dict)
    g.N.Watched.exact (g.N.Watched.counts c.args.wire.now) (g.N.Watched.counts c.wire-1.given.0) (g.N.Watched.happened c.args.wire.now)
    c.args.route.now c.args.events.now c.run_keeping-report.result c.requires.keeps
    c.run_keeping-report.ensures.report (search rules) (search rules) (search (lent_untroubled, rules))
    (lent_through_at _ _ _ _ _ c.new-backend.result.inner.wire.wire.ghost_name g.N.Watched.happened g.N.Watched.counts c.args.wire.now
    c.new-backend.result.inner.wire.wire.now c.wire-1.given.0 c.run_keeping-report.new.backend.inner.wire.wire.now _ (search rules) (search rules)
    c.run_keeping-report.ensures.through)
    (search (lent_borne, rules)) (search (lent_shares, rules))

use Rattle.std.proofs.Common.{rules}
use Rattle.z_client.specs.contracts.session.ZSessionSitting.TheImpl as sitting
use Rattle.replay_top.proofs.ReportLemmas.{plain_ok}
use Rattle.replay_top.proofs.RunLemmas.{lent_untroubled, lent_through, lent_borne, lent_shares}
use Rattle.replay_top.proofs.runs.play_plain.Goals as goal

pub returns-clause-played : goal.returns-clause-played
returns-clause-played g c =
    plain_ok g.W.World
    (sitting.ghosts g.row.W g.row.N-Link g.W.World g.W.World-dict g.N.Link.Linked g.N.Link.Linked-dict g.W.Destruct-dict g.N.Link.Destruct-dict)
    g.N.Watched.exact (g.N.Watched.counts c.args.wire.now) (g.N.Watched.counts c.wire-1.given.0) (g.N.Watched.happened c.args.wire.now)
    c.args.route.now c.args.events.now c.run_plain-report.result c.requires.keeps
    c.run_plain-report.ensures.report (search rules) (search rules) (search (lent_untroubled, rules)) (search (lent_through, rules))
    (search (lent_borne, rules)) (search (lent_shares, rules))

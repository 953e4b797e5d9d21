use Rattle.front_session.proofs.SettleLemmas.{given_fit, each-behind}
use Rattle.front_session.proofs.session.FrontSession.settle_for.Goals as goal

pub end_answered-requires-clause-records : goal.end_answered-requires-clause-records
end_answered-requires-clause-records c =
    rw (c.in-Ok.ensures.given, c.sizes.ensures)
    (given_fit c.args.self.now.agreed.sizes c.args.self.now.records c.args.pending.work c.args.outcome c.requires.waits.records c.requires.fits c.requires.kept.records)

pub end_answered-requires-clause-after : goal.end_answered-requires-clause-after
end_answered-requires-clause-after c =
    rw (c.in-Ok.ensures.is_good, c.in-Ok.ensures.hits)
    (each-behind c.args.pending.request c.args.pending.work c.args.outcome c.args.self.now.sets c.requires.waits.begins c.requires.waits.asks c.requires.fits c.requires.kept.sets)

use Rattle.conn_served.specs.Serving.{source_view}
use Rattle.serve.proofs.rounds.go_on.Goals as goal

pub drive_on-requires-clause-in_work : goal.drive_on-requires-clause-in_work
drive_on-requires-clause-in_work g c = c.is_in_work.ensures.0 c.if-is_in_work.true

pub returns-then-is_in_work-clause-goes : goal.returns-then-is_in_work-clause-goes
returns-then-is_in_work-clause-goes g c = λ start at. c.drive_on.ensures.goes start (source_view g.I.Source c.args.source.now) at

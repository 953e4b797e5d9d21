use Rattle.std.specs.Option.{option_copied}
use Rattle.z_types.specs.Under.{under}
use Rattle.gateway_rules.specs.Targets.{record_at}
use Rattle.package_rules.proofs.Rooms.{length-records}
use Rattle.package.proofs.outcomes.fetch.Goals as goal

pub returns-in-Good-clause-count : goal.returns-in-Good-clause-count
returns-in-Good-clause-count g c =
    let w = c.args.wanted in
    let f = record_at (under w.login.now g.T.World) c.args.route.now w.legs.now w.query.now (option_copied w.syntax) (option_copied w.element) in
    length-records f c.args.hits.now c.args.first c.args.count c.in-Good.records c.in-Good.ensures

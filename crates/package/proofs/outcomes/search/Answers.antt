use Rattle.std.proofs.Common.{◌≡◌, length, arith}
use Rattle.z_types.specs.Under.{under}
use Rattle.package_rules.proofs.Rooms.{length-hits}
use Rattle.package.proofs.outcomes.search.Goals as goal

pub fetch_shown-requires-clause-few : goal.fetch_shown-requires-clause-few
fetch_shown-requires-clause-few g c =
    let counted : length c.in-Good.hits ≡ length c.in-Search.legs =
    length-hits (under c.in-Search.login g.T.World) c.args.route.now c.in-Search.legs c.in-Search.query c.in-Good.hits c.in-Good.ensures in
    let begun = rw c.in-Search.is at c.requires in
    omega (arith, counted, begun.begun.0)

pub returns-clause-fits : goal.returns-clause-fits
returns-clause-fits g c =
    let counted : length c.in-Good.hits ≡ length c.in-Search.legs =
    length-hits (under c.in-Search.login g.T.World) c.args.route.now c.in-Search.legs c.in-Search.query c.in-Good.hits c.in-Good.ensures in
    rw c.in-Search.is (counted, c.in_ok-fetched.ensures.room)

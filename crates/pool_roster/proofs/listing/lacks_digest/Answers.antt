use Rattle.std.proofs.Common.{◌<◌, length, get_or, arith}
use Rattle.pool_roster.proofs.Given.{some_item, one_number}
use Rattle.pool_roster.proofs.listing.lacks_digest.Goals as goal

pub returns-then-not-differs-clause-has : goal.returns-then-not-differs-clause-has
returns-then-not-differs-clause-has g c =
    let es = c.args.table.now.entries in
    let within : c.loop-place.place < length es = omega (arith, c.loop-place.invariant.all) in
    let e = some_item es c.loop-place.place within in
    λ h lacks. lacks c.loop-place.place e within (one_number (g.D.Digest.digest c.args.own (get_or es c.loop-place.place e).key) c.args.digest (c.if-not-differs.ensures e))

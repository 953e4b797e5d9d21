use Rattle.std.proofs.Common.{arith}
use Rattle.z_ber.proofs.PlaceLemmas.{place_unheaded}
use Rattle.z_ber.proofs.WalkLemmas.{overlong_place, may_begin}
use Rattle.z_ber.proofs.place.find_header.Goals as goal

pub returns-then-len-octets : goal.returns-then-len-octets
returns-then-len-octets c =
    overlong_place c.args.levels c.in-Some.len c.args.octets.now c.in-Ok.head (omega (arith, c.if-levels-eq0.false)) c.in-Ok.ensures c.in-Some.is c.if-len-octets.true

pub returns-else-len-octets : goal.returns-else-len-octets
returns-else-len-octets c =
    may_begin c.args.levels c.in-Some.len c.args.octets.now c.in-Ok.head (omega (arith, c.if-levels-eq0.false)) c.in-Ok.ensures c.in-Some.is c.if-len-octets.false

pub returns-in-Err : goal.returns-in-Err
returns-in-Err c = place_unheaded c.args.levels c.args.octets.now c.in-Err.field-0 (omega (arith, c.if-levels-eq0.false)) c.in-Err.ensures

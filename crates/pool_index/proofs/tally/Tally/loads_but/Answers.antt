use Rattle.std.proofs.Common.{sym, get_or}
use Rattle.std.proofs.lemmas.List.{get_or_default}
use Rattle.pool_sets.specs.Plain.{is_seat}
use Rattle.pool_core.proofs.Seats.{place_of}
use Rattle.pool_roster.proofs.Given.{some_item}
use Rattle.pool_index.proofs.Registers.{loads_whole, loads_less}
use Rattle.pool_index.proofs.tally.Tally.loads_but.Goals as goal

pub returns-in_default-seat : goal.returns-in_default-seat
returns-in_default-seat g c =
    rw c.in-Some.is (loads_whole c.args.self.now c.args.roster.now.sessions c.requires.right c.in-Some.seat.now (sym c.in_default-seat.ensures))

pub returns : goal.returns
returns g c =
    let os = c.args.roster.now.sessions in
    let seat = c.in-Some.seat.now in
    let i = c.in-Some-seat.place in
    let at = sym c.in-Some-seat.ensures in
    let within = (place_of (is_seat seat) os i at).0 in
    let d = some_item os i within in
    let o = get_or os i d in
    rw (c.in-Some.is, c.loads_without.ensures d) (loads_less c.args.self.now os c.requires.right seat i o c.requires.order at (get_or_default os i d o within))

use Rattle.std.proofs.Common.{◌∙◌, ap, sym, get_or}
use Rattle.std.proofs.lemmas.List.{get_or_default}
use Rattle.pool_sets.specs.Plain.{is_seat}
use Rattle.pool_core.proofs.Seats.{place_of}
use Rattle.pool_roster.specs.RosterView.{with_told}
use Rattle.pool_roster.proofs.Given.{some_item}
use Rattle.pool_index.proofs.Registers.{register_removed, seat_removed, no_seat_dropped}
use Rattle.pool_index.proofs.register.Register.drop_seat.Goals as goal

pub invariant_of-self : goal.invariant_of-self
invariant_of-self g c =
    let os = c.self.inside.roster.sessions in
    let at = sym c.in-Some.ensures in
    let within = (place_of (is_seat c.args.seat.now) os c.in-Some.place at).0 in
    let d = some_item os c.in-Some.place within in
    let o = get_or os c.in-Some.place d in
    let left = ap (λ r. r.sessions) c.drop_seat.ensures ∙ seat_removed c.args.seat.now os c.in-Some.place c.rises.ensures at in
    rw (left, c.change_all.ensures d) (register_removed g.D.Digest.own c.self.inside.index c.self.inside.tallies.items os c.self.invariant c.take_out.new.index c.in-Some.place o c.rises.ensures within (get_or_default os c.in-Some.place d o within) (c.take_out.ensures d))

pub returns-in_default : goal.returns-in_default
returns-in_default g c =
    let r = c.self.inside.roster in
    rw (← c.self.view_is) (ap (λ os. with_told os r) (sym (no_seat_dropped c.args.seat.now r.sessions (sym c.in_default.ensures))))

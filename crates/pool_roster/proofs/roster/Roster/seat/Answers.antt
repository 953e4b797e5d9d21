use Rattle.std.proofs.Common.{◌∙◌, ap, position, sym, subst}
use Rattle.pool_sets.specs.Plain.{is_seat}
use Rattle.pool_roster.specs.RosterView.{Rises}
use Rattle.pool_roster.proofs.Counting.{told_seat}
use Rattle.pool_roster.proofs.Settling.{rises}
use Rattle.pool_roster.proofs.Rosters.{rise_in}
use Rattle.pool_roster.specs.Told.{told}
use Rattle.pool_roster.proofs.roster.Roster.seat.Goals as goal

pub seat_place-requires : goal.seat_place-requires
seat_place-requires g c =
    let x = c.self.inside.expiries in
    let ttl = c.self.inside.set_ttl in
    let bs = c.self.inside.berths.items in
    record { order = subst Rises (sym c.as_slice.ensures.value) (rises x ttl bs (rise_in (told x ttl bs) c.self.invariant.ascends)) }

pub returns : goal.returns
returns g c =
    rw (← c.self.view_is) (c.seat_place.ensures ∙ ap (position (λ b. is_seat c.args.seat.now b.session)) c.as_slice.ensures.value ∙ told_seat c.self.inside.expiries c.self.inside.set_ttl c.args.seat.now c.self.inside.berths.items)

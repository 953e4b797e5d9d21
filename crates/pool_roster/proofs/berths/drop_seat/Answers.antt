use Rattle.std.proofs.Common.{◌∙◌, sym, ap, subst, get_or, position}
use Rattle.pool_sets.specs.Plain.{is_seat}
use Rattle.pool_core.proofs.Seats.{place_of, no_place, seat_number}
use Rattle.pool_roster.specs.RosterView.{Rises, IsPlace}
use Rattle.pool_roster.proofs.Seeking.{one_place}
use Rattle.pool_roster.proofs.Dropping.{none_dropped, one_dropped}
use Rattle.pool_roster.proofs.berths.drop_seat.Goals as goal

pub seat_place-requires : goal.seat_place-requires
seat_place-requires g c = record { order = subst Rises (sym c.as_slice.ensures.value) c.requires.order }

pub returns-in-Some : goal.returns-in-Some
returns-in-Some g c =
    let bs = c.args.berths.now.items in
    let seat = c.args.seat.now in
    let i = c.in-Some.place in
    let at = place_of (λ b. is_seat seat b.session) bs i (sym (c.in-Some.ensures ∙ ap (position (λ b. is_seat seat b.session)) c.as_slice.ensures.value)) in
    let is : IsPlace seat.number bs i = record { within = at.0; number_there = λ d. (seat_number seat (get_or bs i d).session (at.1 d)).0 } in
    c.remove.ensures.items ∙ sym (one_dropped (λ b. is_seat seat b.session) bs i at.0 at.1 (λ k d w t. one_place seat.number bs i c.requires.order is k d w (seat_number seat (get_or bs k d).session t).0))

pub returns-in_default : goal.returns-in_default
returns-in_default g c =
    let bs = c.args.berths.now.items in
    let seat = c.args.seat.now in
    sym (none_dropped (λ b. is_seat seat b.session) bs (no_place (λ b. is_seat seat b.session) bs (sym (c.in_default.ensures ∙ ap (position (λ b. is_seat seat b.session)) c.as_slice.ensures.value))))

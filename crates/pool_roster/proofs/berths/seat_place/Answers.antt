use Rattle.std.proofs.Common.{◌∙◌, sym, ap, refl}
use Rattle.std.proofs.lemmas.List.{get_or_default}
use Rattle.pool_sets.specs.Plain.{is_seat}
use Rattle.pool_roster.proofs.Seeking.{no_seat, this_seat, other_seat}
use Rattle.pool_roster.proofs.berths.seat_place.Goals as goal

pub returns-in_default : goal.returns-in_default
returns-in_default g c = sym (no_seat c.args.seat.now c.args.berths.now (c.in_default.ensures.none refl))

pub returns-then-is_seat : goal.returns-then-is_seat
returns-then-is_seat g c =
    let seat = c.args.seat.now in
    let bs = c.args.berths.now in
    let is = c.in-Some.ensures.some in
    sym (this_seat seat bs c.in-Some.place c.requires.order is
    (λ d. ap (λ b. is_seat seat b.session) (get_or_default bs c.in-Some.place d c.index-berths-place.result is.within) ∙ sym c.if-is_seat.ensures))

pub returns-else-is_seat : goal.returns-else-is_seat
returns-else-is_seat g c =
    let seat = c.args.seat.now in
    let bs = c.args.berths.now in
    let is = c.in-Some.ensures.some in
    sym (other_seat seat bs c.in-Some.place c.requires.order is
    (λ d. ap (λ b. is_seat seat b.session) (get_or_default bs c.in-Some.place d c.index-berths-place.result is.within) ∙ sym c.if-is_seat.ensures))

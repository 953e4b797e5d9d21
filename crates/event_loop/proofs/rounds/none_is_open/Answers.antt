use Rattle.std.proofs.Common.{◌∙◌, ◌<◌, arith, length, refl, sym}
use Rattle.event_loop.specs.steps.Places.{open_at}
use Rattle.event_loop.proofs.FrontLemmas.{none-all, none-next, place-read}
use Rattle.event_loop.proofs.SeatedLemmas.{none-sum}
use Rattle.event_loop.proofs.ServesLemmas.{none-there}
use Rattle.event_loop.proofs.rounds.none_is_open.Goals as goal

pub loop-place-init : goal.loop-place-init
loop-place-init g c = λ other inside.
    absurd (omega (arith, inside))

pub loop-place-preserved : goal.loop-place-preserved
loop-place-preserved g c =
    let place = c.loop-place.place in
    let here = c.index-places-place.result in
    let within : place < length c.args.places.now = omega (arith, c.loop-place-test.true) in
    none-next c.args.places.now place c.loop-place.invariant
    (place-read c.args.places.now place here within ∙ sym c.index-places-place.is
    ∙ none-there here c.is_some.result c.is_some.ensures c.if-is_some.false)

pub returns : goal.returns
returns g c = λ yes.
    none-sum open_at refl c.args.places.now
    (none-all c.args.places.now c.loop-place.place (omega (arith, c.loop-place-test.false, c.loop-place.auto.place-end)) c.loop-place.invariant)

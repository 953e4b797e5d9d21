use Rattle.std.proofs.Common.{◌≡◌, ◌+◌, ◌++◌, ◌∙◌, ap, subst, sym, arith}
use Rattle.script.specs.Events.{AreEvents}
use Rattle.sample_maker.specs.Load.{client_events, load_events}
use Rattle.sample_maker.proofs.LoadLemmas.{load_events-more, load-playable, no_load}
use Rattle.sample_maker.proofs.load.make.Goals as goal

pub loop-place-init : goal.loop-place-init
loop-place-init c = c.new-events.ensures ∙ sym no_load

pub loop-place-preserved : goal.loop-place-preserved
loop-place-preserved c =
    let place = c.loop-place.place in
    c.in_ok-put_client.ensures ∙ ap (λ events. events ++ client_events (place + 1)) c.loop-place.invariant ∙ sym (load_events-more place)

pub returns-clause-events : goal.returns-clause-events
returns-clause-events c =
    c.loop-place.invariant ∙ ap load_events (omega (arith, c.loop-place-test.false, c.loop-place.auto.place-end))

pub returns-clause-playable : goal.returns-clause-playable
returns-clause-playable c = λ few targets.
    let all : c.loop-place.events ≡ load_events c.args.clients = returns-clause-events c in
    subst (AreEvents targets) (sym all) (load-playable targets c.args.clients few)

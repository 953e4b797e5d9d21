use Rattle.std.proofs.Common.{◌≡◌, ◌∙◌, ◌++◌, ◌∷◌, ◌+◌, ◌*◌, ◌^◌, ◌≤◌, ◌<◌, ℕ, List, [], Some, take, slice_get, length, refl, sym, ap, subst, arith}
use Rattle.std.proofs.lemmas.List.{take_all, take_more}
use Rattle.std.proofs.lemmas.Option.{slice_get_read}
use Rattle.script.specs.declared.event.Event.{Event}
use Rattle.script.specs.Events.{most_amount, seconds_of}
use Rattle.replay.specs.Trace.{ArePlayed, IsPlayed, Playing, moment_behind, outside_of}
use Rattle.replay.specs.steps.Clients.{AreClientsOf}
use Rattle.replay.proofs.ClientLemmas.{event_stands}
use Rattle.replay.proofs.EventLemmas.{event_at, follows_at, seconds_few}
use Rattle.replay.proofs.SumLemmas.{costed_on, nothing_costed, played_costed}
use Rattle.replay.proofs.TraceLemmas.{moment-more, played-more}
use Rattle.replay.proofs.playing.play.Goals as goal

pub loop-event-init : goal.loop-event-init
loop-event-init g c = record {
  moment = refl;
  early = omega arith;
  most = refl;
  stand = c.requires.none;
  costed = nothing_costed g.B.Watched.exact c.args.route.now
      (record { clients = c.args.clients.now; outside = outside_of g.D.Door g.B.Watched c.args.door.now c.args.backend.now });
  played = refl;
}

pub play_event-requires : goal.play_event-requires
play_event-requires g c =
    let events = c.args.events.now in
    let place = c.loop-event.event-index in
    let event = c.event-item.result in
    let at : slice_get events place ≡ Some event = slice_get_read events (length events) place event refl c.loop-event-test.true c.event-item.is in record {
      targets = c.requires.events.0;
      is_event = event_at c.requires.events.0 events place event at c.requires.events.1.each;
      before = take place events;
      may = follows_at [] events place event at c.requires.events.1.in_order;
      stand = subst (λ (m : ℕ). AreClientsOf g.W.World g.B.Session.Sitting c.args.route.now m (take place events) c.loop-event.clients)
          (sym c.loop-event.invariant.most) c.loop-event.invariant.stand;
    }

pub loop-event-preserved : goal.loop-event-preserved
loop-event-preserved g c =
    let most = (g.D.Door.counts c.args.door.now).most in
    let events = c.args.events.now in
    let place = c.loop-event.event-index in
    let event = c.event-item.result in
    let at : slice_get events place ≡ Some event = slice_get_read events (length events) place event refl c.loop-event-test.true c.event-item.is in
    let is_event = event_at c.requires.events.0 events place event at c.requires.events.1.each in
    let more : take (place + 1) events ≡ take place events ++ event ∷ [] =
    take_more events place event c.loop-event-test.true ∙ ap (λ (x : Event). take place events ++ x ∷ []) (sym c.event-item.is) in
    let few : seconds_of event ≤ most_amount = seconds_few event c.requires.events.0 is_event in
    let small : c.loop-event.now + seconds_of event ≤ (place + 1) * most_amount = omega (arith, few, c.loop-event.invariant.early) in
    let within : c.loop-event.now + seconds_of event < 2 ^ 64 = omega (arith, small, c.requires.events.1.few, c.loop-event-test.true) in
    let now' : c.saturating_add-now.result ≡ c.loop-event.now + seconds_of event = omega (arith, c.saturating_add-now.ensures, c.seconds_of.ensures, within) in
    let moment : c.saturating_add-now.result ≡ moment_behind (take (place + 1) events) =
    now' ∙ ap (λ n. n + seconds_of event) c.loop-event.invariant.moment ∙ sym (moment-more (take place events) event) ∙ ap moment_behind (sym more) in
    let behind : c.loop-event.now ≡ 0 + moment_behind (take place events) = omega (arith, c.loop-event.invariant.moment) in
    let may = follows_at [] events place event at c.requires.events.1.in_order in
    let start : Playing g.row.B-Session.Denot =
    record { clients = c.args.clients.now; outside = outside_of g.D.Door g.B.Watched c.args.door.now c.args.backend.now } in
    let mid : Playing g.row.B-Session.Denot =
    record { clients = c.loop-event.clients; outside = outside_of g.D.Door g.B.Watched c.loop-event.door c.loop-event.backend } in
    let new : Playing g.row.B-Session.Denot =
    record { clients = c.play_event.new.clients; outside = outside_of g.D.Door g.B.Watched c.play_event.new.door c.play_event.new.backend } in
    let played : IsPlayed g.W.World g.B.Session.Sitting g.B.Watched.exact c.args.route.now event c.loop-event.now mid new = c.in_ok-play_event.ensures.played in record {
      moment = moment;
      early = omega (arith, now', small);
      most = c.play_event.ensures.most ∙ c.loop-event.invariant.most;
      stand = subst (λ (es : List Event). AreClientsOf g.W.World g.B.Session.Sitting c.args.route.now most es c.play_event.new.clients) (sym more)
          (event_stands g.W.World g.B.Session.Sitting c.args.route.now most c.connection_laws.ensures g.B.Watched.exact c.loop-event.now event
          c.requires.events.0 (take place events) mid new is_event may c.loop-event.invariant.most played c.loop-event.invariant.stand);
      costed = costed_on g.B.Watched.exact c.args.route.now
          start mid new c.loop-event.invariant.costed
          (played_costed g.W.World g.B.Session.Sitting g.B.Watched.exact c.args.route.now c.connection_laws.ensures c.cost_laws.ensures c.parts.ensures.sound
          event c.loop-event.now c.requires.events.0 (take place events) mid new is_event
          (subst (λ (m : ℕ). AreClientsOf g.W.World g.B.Session.Sitting c.args.route.now m (take place events) c.loop-event.clients)
          (sym c.loop-event.invariant.most) c.loop-event.invariant.stand) played);
      played = subst (λ (es : List Event). ArePlayed g.W.World g.B.Session.Sitting g.B.Watched.exact c.args.route.now es 0 start new) (sym more)
          (played-more g.W.World g.B.Session.Sitting g.B.Watched.exact c.args.route.now (take place events) event 0 start mid new c.loop-event.invariant.played
          (subst (λ (n : ℕ). IsPlayed g.W.World g.B.Session.Sitting g.B.Watched.exact c.args.route.now event n mid new) behind played));
    }

pub returns-clause-moment : goal.returns-clause-moment
returns-clause-moment g c =
    c.loop-event.invariant.moment ∙ ap moment_behind (take_all c.loop-event.event-index c.args.events.now (omega (arith, c.loop-event-test.false)))

pub returns-clause-stand : goal.returns-clause-stand
returns-clause-stand g c =
    subst (λ (es : List Event). AreClientsOf g.W.World g.B.Session.Sitting c.args.route.now (g.D.Door.counts c.args.door.now).most es c.loop-event.clients)
    (take_all c.loop-event.event-index c.args.events.now (omega (arith, c.loop-event-test.false))) c.loop-event.invariant.stand

pub returns-clause-played : goal.returns-clause-played
returns-clause-played g c =
    subst (λ (es : List Event). ArePlayed g.W.World g.B.Session.Sitting g.B.Watched.exact c.args.route.now es 0
    (record { clients = c.args.clients.now; outside = outside_of g.D.Door g.B.Watched c.args.door.now c.args.backend.now })
    (record { clients = c.loop-event.clients; outside = outside_of g.D.Door g.B.Watched c.loop-event.door c.loop-event.backend }))
    (take_all c.loop-event.event-index c.args.events.now (omega (arith, c.loop-event-test.false))) c.loop-event.invariant.played

use Rattle.std.proofs.Common.{◌≡◌, ◌∙◌, ◌<◌, ◌+◌, ◌-◌, suc, Some, get_or, length, add-one, sym, ap, arith}
use Rattle.std.proofs.lemmas.Result.{on_ok_weaker}
use Rattle.script.specs.Events.{IsClient, client_of}
use Rattle.replay.specs.Clients.{client_at}
use Rattle.replay.specs.Trace.{backend_of, outside_of}
use Rattle.replay.proofs.ClientLemmas.{can_play_here, client_at-read, client_within, played_here, played_none}
use Rattle.replay.proofs.playing.play_event.Goals as goal

pub overflow_sub-place : goal.overflow_sub-place
overflow_sub-place g c =
    let within = client_within c.args.event.now c.requires.targets c.in-Some.number (sym c.client.ensures ∙ c.in-Some.is) c.requires.is_event in
    omega (arith, within.0)

pub bounds-clients-place : goal.bounds-clients-place
bounds-clients-place g c =
    let within = client_within c.args.event.now c.requires.targets c.in-Some.number (sym c.client.ensures ∙ c.in-Some.is) c.requires.is_event in
    omega (arith, within.0, within.1, c.requires.stand.all)

pub play_client-requires : goal.play_client-requires
play_client-requires g c =
    let most = (g.D.Door.counts c.args.door.now).most in
    let event = c.args.event.now in
    let clients = c.args.clients.now in
    let number = c.in-Some.number in
    let here = get_or clients (number - 1) c.index-clients-place.result in
    let its : client_of event ≡ Some number = sym c.client.ensures ∙ c.in-Some.is in
    let within : IsClient number = client_within event c.requires.targets number its c.requires.is_event in
    let there : number - 1 < length clients = omega (arith, within.0, within.1, c.requires.stand.all) in
    let above : number ≡ (number - 1) + 1 = omega (arith, within.0) in
    let its' : client_of event ≡ Some (suc (number - 1)) = its ∙ ap Some (above ∙ add-one (number - 1)) in
    let is : here ≡ client_at clients (number - 1) = sym c.index-clients-place.is ∙ client_at-read clients (number - 1) c.index-clients-place.result there c.index-clients-place.is in
    let can = can_play_here g.W.World g.B.Session.Sitting c.args.route.now most c.connection_laws.ensures event c.requires.before clients (number - 1) here
    its' c.requires.may is (c.requires.stand.each (number - 1) there) in
    record { its = can.its; of = can.of; takes = can.takes }

pub returns-in-Some-clause-played : goal.returns-in-Some-clause-played
returns-in-Some-clause-played g c =
    let event = c.args.event.now in
    let clients = c.args.clients.now in
    let number = c.in-Some.number in
    let here = get_or clients (number - 1) c.index-clients-place.result in
    let its : client_of event ≡ Some number = sym c.client.ensures ∙ c.in-Some.is in
    let within : IsClient number = client_within event c.requires.targets number its c.requires.is_event in
    let there : number - 1 < length clients = omega (arith, within.0, within.1, c.requires.stand.all) in
    let is : here ≡ client_at clients (number - 1) = sym c.index-clients-place.is ∙ client_at-read clients (number - 1) c.index-clients-place.result there c.index-clients-place.is in
    on_ok_weaker c.play_client.result
    (played_here g.W.World g.B.Session.Sitting g.B.Watched.exact c.args.route.now event c.args.now number clients here c.play_client.new.place
    (outside_of g.D.Door g.B.Watched c.args.door.now c.args.backend.now)
    (outside_of g.D.Door g.B.Watched c.play_client.new.door c.play_client.new.backend) its is)
    c.play_client.ensures.played

pub returns-in-None-clause-played : goal.returns-in-None-clause-played
returns-in-None-clause-played g c =
    on_ok_weaker c.befall.result
    (played_none g.W.World g.B.Session.Sitting g.B.Watched.exact c.args.route.now c.args.event.now c.args.now c.args.clients.now
    (outside_of g.D.Door g.B.Watched c.args.door.now c.args.backend.now).door (backend_of g.B.Watched c.args.backend.now)
    (backend_of g.B.Watched c.befall.new.links) (sym c.client.ensures ∙ c.in-None.is)) c.befall.ensures

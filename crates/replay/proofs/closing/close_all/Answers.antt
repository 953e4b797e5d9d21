use Rattle.std.proofs.Common.{◌≡◌, ◌∙◌, ◌<◌, get_or, length, sym, arith}
use Rattle.replay.specs.Clients.{client_at}
use Rattle.replay.specs.Trace.{outside_of}
use Rattle.replay.proofs.ClientLemmas.{client_at-read}
use Rattle.replay.proofs.ClosingLemmas.{all_closed, next_closed, none_closed, of_route_at}
use Rattle.replay.proofs.closing.close_all.Goals as goal

pub loop-place-init : goal.loop-place-init
loop-place-init g c =
    none_closed g.W.World g.B.Session.Sitting g.B.Watched.exact c.args.route.now c.args.now
    (record { clients = c.args.clients.now; outside = outside_of g.D.Door g.B.Watched c.args.door.now c.args.backend.now })

pub close-requires : goal.close-requires
close-requires g c =
    let place = c.loop-place.place in
    let here = get_or c.loop-place.clients place c.index-clients-place.result in
    let within : place < length c.loop-place.clients = omega (arith, c.loop-place-test.true, c.loop-place.auto.clients) in
    let is : here ≡ client_at c.loop-place.clients place =
    sym c.index-clients-place.is ∙ client_at-read c.loop-place.clients place c.index-clients-place.result within c.index-clients-place.is in
    of_route_at g.W.World g.B.Session.Sitting g.B.Watched.exact c.args.route.now c.args.now place c.requires.0
    (record { clients = c.args.clients.now; outside = outside_of g.D.Door g.B.Watched c.args.door.now c.args.backend.now })
    (record { clients = c.loop-place.clients; outside = outside_of g.D.Door g.B.Watched c.loop-place.door c.loop-place.backend })
    here within is c.requires.1 c.loop-place.invariant

pub loop-place-preserved : goal.loop-place-preserved
loop-place-preserved g c =
    let place = c.loop-place.place in
    let here = get_or c.loop-place.clients place c.index-clients-place.result in
    let within : place < length c.loop-place.clients = omega (arith, c.loop-place-test.true, c.loop-place.auto.clients) in
    let is : here ≡ client_at c.loop-place.clients place =
    sym c.index-clients-place.is ∙ client_at-read c.loop-place.clients place c.index-clients-place.result within c.index-clients-place.is in
    next_closed g.W.World g.B.Session.Sitting g.B.Watched.exact c.args.route.now c.args.now place
    (record { clients = c.args.clients.now; outside = outside_of g.D.Door g.B.Watched c.args.door.now c.args.backend.now })
    (record { clients = c.loop-place.clients; outside = outside_of g.D.Door g.B.Watched c.loop-place.door c.loop-place.backend })
    here c.close.new.place (outside_of g.D.Door g.B.Watched c.close.new.door c.close.new.backend)
    within is c.connection_laws.ensures c.cost_laws.ensures c.parts.ensures.sound
    (of_route_at g.W.World g.B.Session.Sitting g.B.Watched.exact c.args.route.now c.args.now place c.requires.0
    (record { clients = c.args.clients.now; outside = outside_of g.D.Door g.B.Watched c.args.door.now c.args.backend.now })
    (record { clients = c.loop-place.clients; outside = outside_of g.D.Door g.B.Watched c.loop-place.door c.loop-place.backend })
    here within is c.requires.1 c.loop-place.invariant)
    c.in_ok-close.ensures c.loop-place.invariant

pub returns : goal.returns
returns g c =
    all_closed g.W.World g.B.Session.Sitting g.B.Watched.exact c.args.route.now c.args.now c.loop-place.place
    (record { clients = c.args.clients.now; outside = outside_of g.D.Door g.B.Watched c.args.door.now c.args.backend.now })
    (record { clients = c.loop-place.clients; outside = outside_of g.D.Door g.B.Watched c.loop-place.door c.loop-place.backend })
    (omega (arith, c.loop-place-test.false, c.loop-place.auto.place-end)) c.requires.1.all c.loop-place.invariant

use Rattle.std.proofs.Common.{◌∙◌, ap}
use Rattle.event_top.proofs.Dialled.{few-first, front-served, full-first}
use Rattle.event_top.proofs.calls.serve_through.Goals as goal

pub new-door-requires : goal.new-door-requires
new-door-requires g c = record {
  told = c.requires.told;
  few = few-first c.args.route.now.pool (g.D.Door.counts c.args.pool) c.requires.counts;
  full_opens = full-first c.args.route.now.pool (g.D.Door.counts c.args.pool) c.requires.counts;
}

pub returns : goal.returns
returns g c =
    front-served g.W.World g.A.In.EdgeSource g.A.Out.EdgeSink g.A.EdgeAccept g.P.Poller g.B.Watched c.args.route.now
    c.args.front.now c.run_front-fronted.new.front c.run_front-fronted.result
    (g.D.Door.counts c.new-door.result.door) (g.D.Door.counts c.run_front-fronted.new.door.door)
    (ap (λ d. g.D.Door.counts d) c.new-door.ensures.same ∙ c.requires.counts)
    c.run_front-fronted.ensures.most c.run_front-fronted.ensures.served c.run_front-fronted.ensures.cause c.tell.ensures.full_opens

use Rattle.std.proofs.Common.{◌∙◌, ℕ, ◌-◌, List, [], ◌∷◌, ◌++◌, Option, ap, arith, refl, subst, sym}
use Rattle.std.specs.Prelude.{option_map}
use Rattle.gw_outside.specs.declared.accepts.Accepted.TheVariants.{Connection}
use Rattle.gw_outside.specs.Accepts.{AcceptFits}
use Rattle.conn_served.specs.declared.served.Served.{Served}
use Rattle.serve.specs.Working.{WorkerView, worker_view}
use Rattle.conn_served.specs.Costs.{tally_of}
use Rattle.conn_served.proofs.SeatLemmas.{back-both, back-none}
use Rattle.serve.proofs.WorkedCosts.{cost-more, cost-none, cost-same}
use Rattle.serve.proofs.WorkingLemmas.{ended-same, failed-same, worked-more, worked-none, worked-same}
use Rattle.serve.proofs.working.serve_all.Goals as goal

pub loop-round-init : goal.loop-round-init
loop-round-init g c = record {
  worked = worked-none g.W.World g.A.In.Source g.A.Out.Sink c.args.route.now (worker_view g.A.Accept c.args.served.now c.args.accept.now);
  cost = cost-none c.args.route.now.pool c.args.served.now (tally_of g.D.Door g.B.Watched c.args.door.now c.args.backend.now);
  seats = back-none (g.D.Door.pool c.args.door.now);
  faults = omega arith;
  most = refl;
}

pub returns-then-is_err-clause-worked : goal.returns-then-is_err-clause-worked
returns-then-is_err-clause-worked g c =
    let old : WorkerView g.row.A-In.Denot g.row.A-Out.Denot = worker_view g.A.Accept c.args.served.now c.args.accept.now in
    let mid : WorkerView g.row.A-In.Denot g.row.A-Out.Denot = worker_view g.A.Accept c.loop-round.served c.loop-round.accept in
    worked-same g.W.World g.A.In.Source g.A.Out.Sink c.args.route.now old mid (record mid { served = c.make_room.new.self })
    c.loop-round.invariant.worked c.make_room.ensures.same refl refl refl

pub returns-in-Ended-clause-worked : goal.returns-in-Ended-clause-worked
returns-in-Ended-clause-worked g c =
    let old : WorkerView g.row.A-In.Denot g.row.A-Out.Denot = worker_view g.A.Accept c.args.served.now c.args.accept.now in
    let mid : WorkerView g.row.A-In.Denot g.row.A-Out.Denot = worker_view g.A.Accept c.loop-round.served c.loop-round.accept in
    let new : WorkerView g.row.A-In.Denot g.row.A-Out.Denot = worker_view g.A.Accept c.make_room.new.self c.accept.new.self in
    worked-same g.W.World g.A.In.Source g.A.Out.Sink c.args.route.now old mid new c.loop-round.invariant.worked
    c.make_room.ensures.same
    (ended-same g.row.A-In.Denot g.row.A-Out.Denot (g.A.Accept.left c.loop-round.accept) (g.A.Accept.left c.accept.new.self)
    c.in-Ended.ensures.fits) c.in-Ended.ensures.closed c.in-Ended.ensures.out

pub returns-in-Failed-clause-worked : goal.returns-in-Failed-clause-worked
returns-in-Failed-clause-worked g c =
    let old : WorkerView g.row.A-In.Denot g.row.A-Out.Denot = worker_view g.A.Accept c.args.served.now c.args.accept.now in
    let mid : WorkerView g.row.A-In.Denot g.row.A-Out.Denot = worker_view g.A.Accept c.loop-round.served c.loop-round.accept in
    let new : WorkerView g.row.A-In.Denot g.row.A-Out.Denot = worker_view g.A.Accept c.make_room.new.self c.accept.new.self in
    worked-same g.W.World g.A.In.Source g.A.Out.Sink c.args.route.now old mid new c.loop-round.invariant.worked
    c.make_room.ensures.same
    (failed-same g.row.A-In.Denot g.row.A-Out.Denot (g.A.Accept.left c.loop-round.accept) (g.A.Accept.left c.accept.new.self)
    c.in-Failed.ensures.fits) c.in-Failed.ensures.closed c.in-Failed.ensures.out

pub returns-in-Failed-clause-failed : goal.returns-in-Failed-clause-failed
returns-in-Failed-clause-failed g c e = omega (arith, c.loop-round.invariant.faults, c.in-Failed.ensures.failed refl)

pub loop-round-preserved : goal.loop-round-preserved
loop-round-preserved g c =
    let old : WorkerView g.row.A-In.Denot g.row.A-Out.Denot = worker_view g.A.Accept c.args.served.now c.args.accept.now in
    let mid : WorkerView g.row.A-In.Denot g.row.A-Out.Denot = worker_view g.A.Accept c.loop-round.served c.loop-round.accept in
    let new : WorkerView g.row.A-In.Denot g.row.A-Out.Denot = worker_view g.A.Accept c.push.new.self c.close.new.self in
    let came : Served = c.serve_client-client.result.came in
    let closed = c.close.ensures.closed
    ∙ ap (λ told. option_map (λ earlier. earlier ++ (c.serve_client-client.new.source, c.serve_client-client.new.sink) ∷ []) told)
    c.in-Connection.ensures.closed in
    let out = c.close.ensures.out ∙ ap (λ told. option_map (λ count. count - 1) told) c.in-Connection.ensures.out in
    let fits = subst
    (λ (m : Option ℕ). AcceptFits (g.A.Accept.left c.loop-round.accept) m (Connection c.in-Connection.source c.in-Connection.sink))
    (sym c.close.ensures.left) c.in-Connection.ensures.fits in record {
      worked = worked-more g.W.World g.A.In.Source g.A.Out.Sink c.args.route.now old mid new c.in-Connection.source
          c.in-Connection.sink (c.serve_client-client.new.source, c.serve_client-client.new.sink) came
          c.loop-round.invariant.worked
          (c.push.ensures ∙ ap (λ (xs : List Served). xs ++ came ∷ []) c.make_room.ensures.same)
          closed fits c.in-Connection.ensures.connection out c.serve_client-client.ensures.served;
      cost = cost-more c.args.route.now.pool c.args.served.now c.loop-round.served c.push.new.self came
          (tally_of g.D.Door g.B.Watched c.args.door.now c.args.backend.now)
          (tally_of g.D.Door g.B.Watched c.loop-round.door c.loop-round.backend)
          (tally_of g.D.Door g.B.Watched c.serve_client-client.new.door c.serve_client-client.new.backend)
          c.loop-round.invariant.cost
          (c.push.ensures ∙ ap (λ (xs : List Served). xs ++ came ∷ []) c.make_room.ensures.same)
          c.loop-round.invariant.most c.serve_client-client.ensures.causes c.serve_client-client.ensures.marks
          c.serve_client-client.ensures.paid;
      seats = back-both (g.D.Door.pool c.args.door.now) (g.D.Door.pool c.loop-round.door)
          (g.D.Door.pool c.serve_client-client.new.door) c.loop-round.invariant.seats c.serve_client-client.ensures.seats;
      faults = omega (arith, c.loop-round.invariant.faults, c.in-Connection.ensures.faults, c.close.ensures.faults);
      most = c.serve_client-client.ensures.most ∙ c.loop-round.invariant.most;
    }

pub returns-then-is_err-clause-cost : goal.returns-then-is_err-clause-cost
returns-then-is_err-clause-cost g c =
    cost-same c.args.route.now.pool c.args.served.now c.loop-round.served c.make_room.new.self
    (tally_of g.D.Door g.B.Watched c.args.door.now c.args.backend.now)
    (tally_of g.D.Door g.B.Watched c.loop-round.door c.loop-round.backend) c.make_room.ensures.same c.loop-round.invariant.cost

pub returns-in-Ended-clause-cost : goal.returns-in-Ended-clause-cost
returns-in-Ended-clause-cost g c =
    cost-same c.args.route.now.pool c.args.served.now c.loop-round.served c.make_room.new.self
    (tally_of g.D.Door g.B.Watched c.args.door.now c.args.backend.now)
    (tally_of g.D.Door g.B.Watched c.loop-round.door c.loop-round.backend) c.make_room.ensures.same c.loop-round.invariant.cost

pub returns-in-Failed-clause-cost : goal.returns-in-Failed-clause-cost
returns-in-Failed-clause-cost g c =
    cost-same c.args.route.now.pool c.args.served.now c.loop-round.served c.make_room.new.self
    (tally_of g.D.Door g.B.Watched c.args.door.now c.args.backend.now)
    (tally_of g.D.Door g.B.Watched c.loop-round.door c.loop-round.backend) c.make_room.ensures.same c.loop-round.invariant.cost

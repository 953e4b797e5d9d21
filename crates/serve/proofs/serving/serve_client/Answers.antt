use Rattle.std.proofs.Common.{◌≡◌, List, ◌∙◌, ap, sym, subst}
use Rattle.z_types.specs.Chains.{StepsFrom}
use Rattle.z_types.specs.declared.marks.Mark.{Mark}
use Rattle.pool_sets.specs.Counts.{DoorCounts}
use Rattle.conn_served.specs.Costs.{AreMarksOf, ArePaid, HaveCauses, tally_of, undialled}
use Rattle.conn_served.specs.Runs.{GoesOnTo}
use Rattle.conn_served.specs.front_conn.steps.Answering.{Outside}
use Rattle.conn_served.specs.front_conn.steps.Drives.{ConnAt, conn_at, given_up_at, outside_of}
use Rattle.conn_served.specs.front_conn.steps.States.{ConnectionState}
use Rattle.conn_served.specs.Serving.{IsServed, streams}
use Rattle.conn_served.proofs.SeatLemmas.{run-back}
use Rattle.serve.proofs.serving.serve_client.Goals as goal

pub returns-clause-served : goal.returns-clause-served
returns-clause-served g c =
    let same = c.into_marks.ensures ∙ ap (λ s. s.marks) c.give_up.ensures.state in
    subst
    (λ (m : List Mark).
    IsServed g.W.World c.args.route.now (streams g.I.Source g.K.Sink c.args.source.now c.args.sink.now)
    (streams g.I.Source g.K.Sink c.serve_to_end-end.new.source c.serve_to_end-end.new.sink) m c.serve_to_end-end.result)
    (sym same) c.serve_to_end-end.ensures.served

pub returns-clause-causes : goal.returns-clause-causes
returns-clause-causes g c =
    let same = c.into_marks.ensures ∙ ap (λ s. s.marks) c.give_up.ensures.state in
    let before = tally_of g.D.Door g.B.Watched c.args.door.now c.args.backend.now in
    subst
    (λ (m : List Mark).
    HaveCauses c.args.route.now.pool m before (tally_of g.D.Door g.B.Watched c.give_up.new.door c.serve_to_end-end.new.backend))
    (sym same)
    (subst
    (λ (d : DoorCounts).
    HaveCauses c.args.route.now.pool c.serve_to_end-end.new.conn.marks before
    (record { door = d; backend = g.B.Watched.counts c.serve_to_end-end.new.backend }))
    (sym c.give_up.ensures.counts) c.serve_to_end-end.ensures.causes)

pub returns-clause-paid : goal.returns-clause-paid
returns-clause-paid g c =
    subst
    (λ (d : DoorCounts).
    ArePaid (undialled c.serve_to_end-end.result) (tally_of g.D.Door g.B.Watched c.args.door.now c.args.backend.now)
    (record { door = d; backend = g.B.Watched.counts c.serve_to_end-end.new.backend }))
    (sym c.give_up.ensures.counts) c.serve_to_end-end.ensures.paid

pub returns-clause-marks : goal.returns-clause-marks
returns-clause-marks g c =
    let same = c.into_marks.ensures ∙ ap (λ s. s.marks) c.give_up.ensures.state in
    subst (λ (m : List Mark). AreMarksOf c.args.route.now.pool (g.D.Door.counts c.args.door.now).most m)
    (sym same) c.serve_to_end-end.ensures.marks

pub returns-clause-run : goal.returns-clause-run
returns-clause-run g c =
    let before : Outside g.row.B-Session.Denot = outside_of g.D.Door g.B.Watched c.args.door.now c.args.backend.now in
    let here : ConnAt g.row.B-Session.Denot =
    conn_at g.D.Door g.B.Watched c.serve_to_end-end.new.conn c.serve_to_end-end.new.door c.serve_to_end-end.new.backend in
    let comes = c.serve_to_end-end.ensures.comes in
    let given : outside_of g.D.Door g.B.Watched c.give_up.new.door c.serve_to_end-end.new.backend ≡ (given_up_at here).outside =
    λ i. record {
      door = record { pool = c.give_up.ensures.pool i; counts = c.give_up.ensures.counts i };
      backend = here.outside.backend;
    } in record {
      last = comes.last;
      stepped = subst
          (λ (s : ConnectionState g.row.B-Session.Denot).
          StepsFrom (GoesOnTo g.W.World g.B.Session.Sitting g.B.Watched.exact c.args.route.now) (record { conn = s; outside = before }) comes.last)
          c.new-conn.ensures.new comes.stepped;
      marks = c.into_marks.ensures ∙ ap (λ s. s.marks) c.give_up.ensures.state
          ∙ ap (λ (p : ConnAt g.row.B-Session.Denot). p.conn.marks) comes.left;
      left = given ∙ ap (λ (p : ConnAt g.row.B-Session.Denot). p.outside) comes.left;
    }

pub returns-clause-seats : goal.returns-clause-seats
returns-clause-seats g c =
    let before : Outside g.row.B-Session.Denot = outside_of g.D.Door g.B.Watched c.args.door.now c.args.backend.now in
    let behind : Outside g.row.B-Session.Denot = outside_of g.D.Door g.B.Watched c.give_up.new.door c.serve_to_end-end.new.backend in
    run-back g.W.World g.B.Session.Sitting g.B.Watched.exact c.args.route.now c.steps_keep_seats.ensures c.connections_give_back.ensures
    c.into_marks.result before behind (returns-clause-run g c)

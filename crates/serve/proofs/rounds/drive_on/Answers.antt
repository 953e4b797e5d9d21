use Rattle.std.proofs.Common.{◌≡◌, ◌∙◌, ap}
use Rattle.conn_served.specs.front_conn.declared.stepped.Stepped.TheVariants.{Memory, Went}
use Rattle.conn_served.specs.front_conn.steps.Drives.{ConnAt, conn_at, given_up_at}
use Rattle.conn_served.specs.Serving.{sink_view}
use Rattle.serve.proofs.DriveLemmas.{driven-ends, driven-few, driven-memory, driven-so, given-twice}
use Rattle.conn_served.proofs.RoundLemmas.{behind-answered, left-here, so-calmly}
use Rattle.conn_served.proofs.ServingLemmas.{serving-memory, serving-stepped}
use Rattle.serve.proofs.rounds.drive_on.Goals as goal

pub returns-in-Ok-clause-goes : goal.returns-in-Ok-clause-goes
returns-in-Ok-clause-goes g c = λ start input at.
    let first : ConnAt g.row.S.Denot = conn_at g.D.Door g.B.Watched c.args.conn.now c.args.door.now c.args.backend.now in
    let last : ConnAt g.row.S.Denot = conn_at g.D.Door g.B.Watched c.drive.new.self c.drive.new.door c.drive.new.backend in
    c.write_out.ensures.goes c.args.route.now start input
    (serving-stepped g.W.World g.S.Sitting c.args.route.now start (record { input = input; output = sink_view g.K.Sink c.args.sink.now })
    first.conn last.conn
    (driven-ends g.W.World g.S.Sitting g.B.Watched.exact c.args.route.now c.steps_meet.ensures c.steps_pay.ensures c.pays_on.ensures c.costs_nothing.ensures
    first last c.requires.in_work c.in-Ok.ensures.driven.0)
    c.in-Ok.ensures.keeps at.serving)

pub returns-in-Err-clause-goes : goal.returns-in-Err-clause-goes
returns-in-Err-clause-goes g c = λ start input at.
    let first : ConnAt g.row.S.Denot = conn_at g.D.Door g.B.Watched c.args.conn.now c.args.door.now c.args.backend.now in
    let driven = c.in-Err.ensures.driven in
    let same : c.drive.new.self.marks ≡ first.conn.marks =
    ap (λ (p : ConnAt g.row.S.Denot). p.conn.marks) driven.2
    ∙ driven-memory g.W.World g.S.Sitting g.B.Watched.exact c.args.route.now c.steps_meet.ensures c.steps_pay.ensures c.pays_on.ensures c.costs_nothing.ensures
    first driven.0 c.requires.in_work driven.1 in
    serving-memory g.W.World g.S.Sitting c.args.route.now start (record { input = input; output = sink_view g.K.Sink c.args.sink.now })
    first.conn c.drive.new.self.marks same at.serving

pub returns-in-Ok-clause-round : goal.returns-in-Ok-clause-round
returns-in-Ok-clause-round g c =
    let first : ConnAt g.row.S.Denot = conn_at g.D.Door g.B.Watched c.args.conn.now c.args.door.now c.args.backend.now in
    let last : ConnAt g.row.S.Denot = conn_at g.D.Door g.B.Watched c.drive.new.self c.drive.new.door c.drive.new.backend in
    let new = c.write_out.new.conn in
    let calm = c.write_out.ensures.calm in
    let driven = c.in-Ok.ensures.driven in record {
      last = record { conn = new; outside = last.outside };
      so = so-calmly g.W.World g.S.Sitting g.B.Watched.exact c.args.route.now first last new
          (driven-so g.W.World g.S.Sitting g.B.Watched.exact c.args.route.now c.steps_meet.ensures c.steps_pay.ensures c.pays_on.ensures c.costs_nothing.ensures
          first last Went c.requires.in_work driven.0) calm;
      leaves = λ at.
          behind-answered first.conn last.conn new c.write_out.result driven.1 calm c.write_out.ensures.written at;
      left = left-here (record { conn = new; outside = last.outside }) c.write_out.result;
    }

pub returns-in-Err-clause-round : goal.returns-in-Err-clause-round
returns-in-Err-clause-round g c =
    let first : ConnAt g.row.S.Denot = conn_at g.D.Door g.B.Watched c.args.conn.now c.args.door.now c.args.backend.now in
    let driven = c.in-Err.ensures.driven in record {
      last = driven.0;
      so = driven-so g.W.World g.S.Sitting g.B.Watched.exact c.args.route.now c.steps_meet.ensures c.steps_pay.ensures c.pays_on.ensures c.costs_nothing.ensures
          first driven.0 Memory c.requires.in_work driven.1;
      leaves = λ at.
          driven-few g.W.World g.S.Sitting g.B.Watched.exact c.args.route.now c.steps_meet.ensures c.steps_pay.ensures c.pays_on.ensures c.costs_nothing.ensures
          first driven.0 Memory c.requires.in_work driven.1 c.steps_owe_few.ensures;
      left = ap (λ (p : ConnAt g.row.S.Denot). given_up_at p) driven.2 ∙ given-twice driven.0;
    }

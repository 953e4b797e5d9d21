use Rattle.std.proofs.Common.{◌∙◌, refl, sym, subst}
use Rattle.conn_served.specs.front_conn_costs.steps.Laws.{IsCosted}
use Rattle.conn_served.specs.front_conn.declared.stepped.Stepped.TheVariants.{Idle, Memory, NotYet, Went}
use Rattle.conn_served.specs.front_conn.steps.Answering.{Outside}
use Rattle.conn_served.specs.front_conn.steps.Drives.{ConnAt, conn_at, outside_of}
use Rattle.conn_served.specs.Serving.{sink_view, source_view, streams}
use Rattle.conn_served.proofs.RoundLemmas.{behind-idle, behind-went, left-here, so-calmly, step-few, step-so, step-wrote}
use Rattle.conn_served.specs.steps.Serving.{IsIdle, IsWrittenOut}
use Rattle.conn_served.specs.front_conn.steps.States.{ConnectionState}
use Rattle.conn_served.proofs.ServingLemmas.{serving-memory, serving-stepped, step-idle, step-memory, step-not_yet, step-went}
use Rattle.serve.proofs.rounds.step_on.Goals as goal

pub returns-in-Memory-clause-goes : goal.returns-in-Memory-clause-goes
returns-in-Memory-clause-goes g c = λ start at.
    let before : Outside g.row.S.Denot = outside_of g.D.Door g.B.Watched c.args.door.now c.args.backend.now in
    let behind : Outside g.row.S.Denot = outside_of g.D.Door g.B.Watched c.step.new.door c.step.new.backend in
    serving-memory g.W.World g.S.Sitting c.args.route.now start (streams g.I.Source g.K.Sink c.args.source.now c.args.sink.now)
    c.args.conn.now c.step.new.self.marks
    (step-memory g.W.World g.S.Sitting g.B.Watched.exact c.args.route.now c.args.now c.args.conn.now c.step.new.self before behind
    c.in-Memory.ensures.stepped) at.serving

pub end_or_read-requires : goal.end_or_read-requires
end_or_read-requires g c =
    let before : Outside g.row.S.Denot = outside_of g.D.Door g.B.Watched c.args.door.now c.args.backend.now in
    let behind : Outside g.row.S.Denot = outside_of g.D.Door g.B.Watched c.step.new.door c.step.new.backend in
    let both = step-idle g.W.World g.S.Sitting g.B.Watched.exact c.args.route.now c.args.now c.args.conn.now c.step.new.self before behind
    c.in-Idle.ensures.stepped in
    record { idle = subst (λ (s : ConnectionState g.row.S.Denot). IsIdle s) (sym both.0) both.1 }

pub returns-in-Idle-clause-goes : goal.returns-in-Idle-clause-goes
returns-in-Idle-clause-goes g c = λ start at.
    let before : Outside g.row.S.Denot = outside_of g.D.Door g.B.Watched c.args.door.now c.args.backend.now in
    let behind : Outside g.row.S.Denot = outside_of g.D.Door g.B.Watched c.step.new.door c.step.new.backend in
    let both = step-idle g.W.World g.S.Sitting g.B.Watched.exact c.args.route.now c.args.now c.args.conn.now c.step.new.self before behind
    c.in-Idle.ensures.stepped in
    c.end_or_read.ensures.goes c.args.route.now start (sink_view g.K.Sink c.args.sink.now)
    (subst
    (λ (s : ConnectionState g.row.S.Denot).
    IsWrittenOut g.W.World c.args.route.now start (streams g.I.Source g.K.Sink c.args.source.now c.args.sink.now) s)
    (sym both.0) at)

pub returns-in-NotYet-clause-goes : goal.returns-in-NotYet-clause-goes
returns-in-NotYet-clause-goes g c = λ start at.
    let before : Outside g.row.S.Denot = outside_of g.D.Door g.B.Watched c.args.door.now c.args.backend.now in
    let behind : Outside g.row.S.Denot = outside_of g.D.Door g.B.Watched c.step.new.door c.step.new.backend in
    let both = step-not_yet g.W.World g.S.Sitting g.B.Watched.exact c.args.route.now c.args.now c.args.conn.now c.step.new.self before
    behind c.in-NotYet.ensures.stepped in record {
      serving = serving-stepped g.W.World g.S.Sitting c.args.route.now start
          (streams g.I.Source g.K.Sink c.args.source.now c.args.sink.now) c.args.conn.now c.step.new.self both.1
          c.in-NotYet.ensures.keeps at.serving;
      nothing_out = both.0 ∙ at.nothing_out;
    }

pub returns-in-Went-clause-goes : goal.returns-in-Went-clause-goes
returns-in-Went-clause-goes g c = λ start at.
    let before : Outside g.row.S.Denot = outside_of g.D.Door g.B.Watched c.args.door.now c.args.backend.now in
    let behind : Outside g.row.S.Denot = outside_of g.D.Door g.B.Watched c.step.new.door c.step.new.backend in
    let so = step-went g.W.World g.S.Sitting g.B.Watched.exact c.args.route.now c.args.now c.args.conn.now c.step.new.self before behind
    c.in-Went.ensures.stepped in
    c.write_out.ensures.goes c.args.route.now start (source_view g.I.Source c.args.source.now)
    (serving-stepped g.W.World g.S.Sitting c.args.route.now start (streams g.I.Source g.K.Sink c.args.source.now c.args.sink.now)
    c.args.conn.now c.step.new.self so c.in-Went.ensures.keeps at.serving)

pub returns-in-Memory-clause-round : goal.returns-in-Memory-clause-round
returns-in-Memory-clause-round g c =
    let here : ConnAt g.row.S.Denot = conn_at g.D.Door g.B.Watched c.args.conn.now c.args.door.now c.args.backend.now in
    let next : ConnAt g.row.S.Denot = conn_at g.D.Door g.B.Watched c.step.new.self c.step.new.door c.step.new.backend in
    let exact = g.B.Watched.exact in
    let route = c.args.route.now in
    let stepped = c.in-Memory.ensures.stepped in
    let so = step-so g.W.World g.S.Sitting exact route c.steps_meet.ensures c.steps_pay.ensures here next Memory
    (record { now = c.args.now; of = c.requires.of; stepped = stepped }) in
    record {
      last = next;
      so = so;
      leaves = λ at. step-few g.W.World g.S.Sitting exact route c.args.now here.conn next.conn here.outside next.outside Memory
          c.steps_owe_few.ensures at.few stepped;
      left = refl;
    }

pub returns-in-Idle-clause-round : goal.returns-in-Idle-clause-round
returns-in-Idle-clause-round g c =
    let here : ConnAt g.row.S.Denot = conn_at g.D.Door g.B.Watched c.args.conn.now c.args.door.now c.args.backend.now in
    let next : ConnAt g.row.S.Denot = conn_at g.D.Door g.B.Watched c.step.new.self c.step.new.door c.step.new.backend in
    let exact = g.B.Watched.exact in
    let route = c.args.route.now in
    let stepped = c.in-Idle.ensures.stepped in
    let so = step-so g.W.World g.S.Sitting exact route c.steps_meet.ensures c.steps_pay.ensures here next Idle
    (record { now = c.args.now; of = c.requires.of; stepped = stepped }) in
    let new = c.end_or_read.new.conn in
    let calm = c.end_or_read.ensures.calm in
    let both = step-idle g.W.World g.S.Sitting exact route c.args.now here.conn next.conn here.outside next.outside stepped in
    record {
      last = record { conn = new; outside = next.outside };
      so = so-calmly g.W.World g.S.Sitting exact route here next new so calm;
      leaves = λ at. behind-idle here.conn next.conn new c.end_or_read.result both.0 both.1 calm c.end_or_read.ensures.out at;
      left = left-here (record { conn = new; outside = next.outside }) c.end_or_read.result;
    }

pub returns-in-NotYet-clause-round : goal.returns-in-NotYet-clause-round
returns-in-NotYet-clause-round g c =
    let here : ConnAt g.row.S.Denot = conn_at g.D.Door g.B.Watched c.args.conn.now c.args.door.now c.args.backend.now in
    let next : ConnAt g.row.S.Denot = conn_at g.D.Door g.B.Watched c.step.new.self c.step.new.door c.step.new.backend in
    let exact = g.B.Watched.exact in
    let route = c.args.route.now in
    let stepped = c.in-NotYet.ensures.stepped in
    let so = step-so g.W.World g.S.Sitting exact route c.steps_meet.ensures c.steps_pay.ensures here next NotYet
    (record { now = c.args.now; of = c.requires.of; stepped = stepped }) in
    let both = step-not_yet g.W.World g.S.Sitting exact route c.args.now here.conn next.conn here.outside next.outside stepped in
    let costed : IsCosted exact route here.conn next.conn here.outside next.outside =
    c.steps_cost.ensures exact route c.args.now here.conn next.conn NotYet here.outside next.outside c.parts.ensures.sound c.requires.of stepped in
    record {
      last = next;
      so = so;
      leaves = λ at. record {
        nothing_out = both.0 ∙ at.nothing_out;
        rests = costed.rests at.rests;
        few = step-few g.W.World g.S.Sitting exact route c.args.now here.conn next.conn here.outside next.outside NotYet
            c.steps_owe_few.ensures at.few stepped;
      };
      left = refl;
    }

pub returns-in-Went-clause-round : goal.returns-in-Went-clause-round
returns-in-Went-clause-round g c =
    let here : ConnAt g.row.S.Denot = conn_at g.D.Door g.B.Watched c.args.conn.now c.args.door.now c.args.backend.now in
    let next : ConnAt g.row.S.Denot = conn_at g.D.Door g.B.Watched c.step.new.self c.step.new.door c.step.new.backend in
    let exact = g.B.Watched.exact in
    let route = c.args.route.now in
    let stepped = c.in-Went.ensures.stepped in
    let so = step-so g.W.World g.S.Sitting exact route c.steps_meet.ensures c.steps_pay.ensures here next Went
    (record { now = c.args.now; of = c.requires.of; stepped = stepped }) in
    let new = c.write_out.new.conn in
    let calm = c.write_out.ensures.calm in
    let costed : IsCosted exact route here.conn next.conn here.outside next.outside =
    c.steps_cost.ensures exact route c.args.now here.conn next.conn Went here.outside next.outside c.parts.ensures.sound c.requires.of stepped in
    record {
      last = record { conn = new; outside = next.outside };
      so = so-calmly g.W.World g.S.Sitting exact route here next new so calm;
      leaves = λ at. behind-went here.conn next.conn new c.write_out.result (costed.rests at.rests)
          (step-few g.W.World g.S.Sitting exact route c.args.now here.conn next.conn here.outside next.outside Went
          c.steps_owe_few.ensures at.few stepped)
          (step-wrote g.W.World g.S.Sitting exact route c.args.now here.conn next.conn here.outside next.outside stepped)
          calm c.write_out.ensures.written at;
      left = left-here (record { conn = new; outside = next.outside }) c.write_out.result;
    }

use Rattle.std.proofs.Common.{◌∙◌, inl, refl, sym, subst}
use Rattle.conn_served.specs.front_conn_costs.steps.Laws.{IsCosted}
use Rattle.conn_served.specs.front_conn.declared.stepped.Stepped.TheVariants.{Idle, Memory, NotYet, Went}
use Rattle.conn_served.specs.front_conn.steps.Drives.{ConnAt, conn_at}
use Rattle.conn_served.specs.front_conn.steps.States.{ConnectionState}
use Rattle.conn_served.specs.steps.Serving.{IsIdle, IsWrittenOut}
use Rattle.conn_served.proofs.RoundLemmas.{behind-idle, so-calmly, step-few, step-so, step-wrote}
use Rattle.conn_served.proofs.ServingLemmas.{serving-memory, serving-stepped, step-idle, step-memory, step-not_yet, step-went}
use Rattle.event_front.specs.Edges.{source_view}
use Rattle.event_front.specs.steps.Rounds.{end_in}
use Rattle.event_front.proofs.PollLemmas.{fed-calm, read-awaits, reads-none}
use Rattle.event_front.proofs.TaskLemmas.{behind-owes, read-stands, wrote-none}
use Rattle.event_front.proofs.rounds.take_step.Goals as goal

pub returns-in-Memory-clause-goes : goal.returns-in-Memory-clause-goes
returns-in-Memory-clause-goes g c = λ start output at.
    let exact = g.B.Watched.exact in
    let route = c.args.route.now in
    let here : ConnAt g.row.S.Denot = conn_at g.D.Door g.B.Watched c.args.conn.now c.args.door.now c.args.backend.now in
    let next : ConnAt g.row.S.Denot = conn_at g.D.Door g.B.Watched c.step.new.self c.step.new.door c.step.new.backend in
    let stepped = c.in-Memory.ensures.stepped in
    serving-memory g.W.World g.S.Sitting route start (record { input = source_view g.I.EdgeSource c.args.input.now; output = output }) here.conn next.conn.marks
    (step-memory g.W.World g.S.Sitting exact route c.args.now here.conn next.conn here.outside next.outside stepped) at.serving

pub end_or_read-requires : goal.end_or_read-requires
end_or_read-requires g c =
    let exact = g.B.Watched.exact in
    let route = c.args.route.now in
    let here : ConnAt g.row.S.Denot = conn_at g.D.Door g.B.Watched c.args.conn.now c.args.door.now c.args.backend.now in
    let next : ConnAt g.row.S.Denot = conn_at g.D.Door g.B.Watched c.step.new.self c.step.new.door c.step.new.backend in
    let stepped = c.in-Idle.ensures.stepped in
    let both = step-idle g.W.World g.S.Sitting exact route c.args.now here.conn next.conn here.outside next.outside stepped in
    record { idle = subst (λ (s : ConnectionState g.row.S.Denot). IsIdle s) (sym both.0) both.1 }

pub returns-in-Idle-clause-goes : goal.returns-in-Idle-clause-goes
returns-in-Idle-clause-goes g c = λ start output at.
    let exact = g.B.Watched.exact in
    let route = c.args.route.now in
    let here : ConnAt g.row.S.Denot = conn_at g.D.Door g.B.Watched c.args.conn.now c.args.door.now c.args.backend.now in
    let next : ConnAt g.row.S.Denot = conn_at g.D.Door g.B.Watched c.step.new.self c.step.new.door c.step.new.backend in
    let stepped = c.in-Idle.ensures.stepped in
    let both = step-idle g.W.World g.S.Sitting exact route c.args.now here.conn next.conn here.outside next.outside stepped in
    read-stands g.W.World g.S.Sitting route start
    (record { input = source_view g.I.EdgeSource c.end_or_read.new.input; output = output }) c.end_or_read.new.conn (end_in c.end_or_read.result)
    (c.end_or_read.ensures.goes route start output
    (subst (λ (s : ConnectionState g.row.S.Denot). IsWrittenOut g.W.World route start (record { input = source_view g.I.EdgeSource c.args.input.now; output = output }) s) (sym both.0) at))

pub returns-in-NotYet-clause-goes : goal.returns-in-NotYet-clause-goes
returns-in-NotYet-clause-goes g c = λ start output at.
    let exact = g.B.Watched.exact in
    let route = c.args.route.now in
    let here : ConnAt g.row.S.Denot = conn_at g.D.Door g.B.Watched c.args.conn.now c.args.door.now c.args.backend.now in
    let next : ConnAt g.row.S.Denot = conn_at g.D.Door g.B.Watched c.step.new.self c.step.new.door c.step.new.backend in
    let stepped = c.in-NotYet.ensures.stepped in
    serving-stepped g.W.World g.S.Sitting route start (record { input = source_view g.I.EdgeSource c.args.input.now; output = output }) here.conn next.conn
    (step-not_yet g.W.World g.S.Sitting exact route c.args.now here.conn next.conn here.outside next.outside stepped).1 c.in-NotYet.ensures.keeps at.serving

pub returns-in-Went-clause-goes : goal.returns-in-Went-clause-goes
returns-in-Went-clause-goes g c = λ start output at.
    let exact = g.B.Watched.exact in
    let route = c.args.route.now in
    let here : ConnAt g.row.S.Denot = conn_at g.D.Door g.B.Watched c.args.conn.now c.args.door.now c.args.backend.now in
    let next : ConnAt g.row.S.Denot = conn_at g.D.Door g.B.Watched c.step.new.self c.step.new.door c.step.new.backend in
    let stepped = c.in-Went.ensures.stepped in
    serving-stepped g.W.World g.S.Sitting route start (record { input = source_view g.I.EdgeSource c.args.input.now; output = output }) here.conn next.conn
    (step-went g.W.World g.S.Sitting exact route c.args.now here.conn next.conn here.outside next.outside stepped) c.in-Went.ensures.keeps at.serving

pub returns-in-Memory-clause-so : goal.returns-in-Memory-clause-so
returns-in-Memory-clause-so g c =
    let exact = g.B.Watched.exact in
    let route = c.args.route.now in
    let here : ConnAt g.row.S.Denot = conn_at g.D.Door g.B.Watched c.args.conn.now c.args.door.now c.args.backend.now in
    let next : ConnAt g.row.S.Denot = conn_at g.D.Door g.B.Watched c.step.new.self c.step.new.door c.step.new.backend in
    let stepped = c.in-Memory.ensures.stepped in
    step-so g.W.World g.S.Sitting exact route c.steps_meet.ensures c.steps_pay.ensures here next Memory
    (record { now = c.args.now; of = c.requires.of; stepped = stepped })

pub returns-in-NotYet-clause-so : goal.returns-in-NotYet-clause-so
returns-in-NotYet-clause-so g c =
    let exact = g.B.Watched.exact in
    let route = c.args.route.now in
    let here : ConnAt g.row.S.Denot = conn_at g.D.Door g.B.Watched c.args.conn.now c.args.door.now c.args.backend.now in
    let next : ConnAt g.row.S.Denot = conn_at g.D.Door g.B.Watched c.step.new.self c.step.new.door c.step.new.backend in
    let stepped = c.in-NotYet.ensures.stepped in
    step-so g.W.World g.S.Sitting exact route c.steps_meet.ensures c.steps_pay.ensures here next NotYet
    (record { now = c.args.now; of = c.requires.of; stepped = stepped })

pub returns-in-Went-clause-so : goal.returns-in-Went-clause-so
returns-in-Went-clause-so g c =
    let exact = g.B.Watched.exact in
    let route = c.args.route.now in
    let here : ConnAt g.row.S.Denot = conn_at g.D.Door g.B.Watched c.args.conn.now c.args.door.now c.args.backend.now in
    let next : ConnAt g.row.S.Denot = conn_at g.D.Door g.B.Watched c.step.new.self c.step.new.door c.step.new.backend in
    let stepped = c.in-Went.ensures.stepped in
    step-so g.W.World g.S.Sitting exact route c.steps_meet.ensures c.steps_pay.ensures here next Went
    (record { now = c.args.now; of = c.requires.of; stepped = stepped })

pub returns-in-Idle-clause-so : goal.returns-in-Idle-clause-so
returns-in-Idle-clause-so g c =
    let exact = g.B.Watched.exact in
    let route = c.args.route.now in
    let here : ConnAt g.row.S.Denot = conn_at g.D.Door g.B.Watched c.args.conn.now c.args.door.now c.args.backend.now in
    let next : ConnAt g.row.S.Denot = conn_at g.D.Door g.B.Watched c.step.new.self c.step.new.door c.step.new.backend in
    let stepped = c.in-Idle.ensures.stepped in
    so-calmly g.W.World g.S.Sitting exact route here next c.end_or_read.new.conn
    (step-so g.W.World g.S.Sitting exact route c.steps_meet.ensures c.steps_pay.ensures here next Idle
    (record { now = c.args.now; of = c.requires.of; stepped = stepped }))
    (fed-calm next.conn c.end_or_read.new.conn c.end_or_read.ensures.fed)

pub returns-in-Memory-clause-owes : goal.returns-in-Memory-clause-owes
returns-in-Memory-clause-owes g c = λ at.
    let exact = g.B.Watched.exact in
    let route = c.args.route.now in
    let here : ConnAt g.row.S.Denot = conn_at g.D.Door g.B.Watched c.args.conn.now c.args.door.now c.args.backend.now in
    let next : ConnAt g.row.S.Denot = conn_at g.D.Door g.B.Watched c.step.new.self c.step.new.door c.step.new.backend in
    let stepped = c.in-Memory.ensures.stepped in
    step-few g.W.World g.S.Sitting exact route c.args.now here.conn next.conn here.outside next.outside Memory c.steps_owe_few.ensures at.few stepped

pub returns-in-NotYet-clause-owes : goal.returns-in-NotYet-clause-owes
returns-in-NotYet-clause-owes g c = λ at.
    let exact = g.B.Watched.exact in
    let route = c.args.route.now in
    let here : ConnAt g.row.S.Denot = conn_at g.D.Door g.B.Watched c.args.conn.now c.args.door.now c.args.backend.now in
    let next : ConnAt g.row.S.Denot = conn_at g.D.Door g.B.Watched c.step.new.self c.step.new.door c.step.new.backend in
    let stepped = c.in-NotYet.ensures.stepped in
    let costed : IsCosted exact route here.conn next.conn here.outside next.outside =
    c.steps_cost.ensures exact route c.args.now here.conn next.conn NotYet here.outside next.outside c.parts.ensures.sound c.requires.of stepped in
    record {
      rests = costed.rests at.rests;
      few = step-few g.W.World g.S.Sitting exact route c.args.now here.conn next.conn here.outside next.outside NotYet c.steps_owe_few.ensures at.few stepped;
      none = inl ((step-not_yet g.W.World g.S.Sitting exact route c.args.now here.conn next.conn here.outside next.outside stepped).0 ∙ at.nothing_out);
    }

pub returns-in-Went-clause-owes : goal.returns-in-Went-clause-owes
returns-in-Went-clause-owes g c = λ at.
    let exact = g.B.Watched.exact in
    let route = c.args.route.now in
    let here : ConnAt g.row.S.Denot = conn_at g.D.Door g.B.Watched c.args.conn.now c.args.door.now c.args.backend.now in
    let next : ConnAt g.row.S.Denot = conn_at g.D.Door g.B.Watched c.step.new.self c.step.new.door c.step.new.backend in
    let stepped = c.in-Went.ensures.stepped in
    let costed : IsCosted exact route here.conn next.conn here.outside next.outside =
    c.steps_cost.ensures exact route c.args.now here.conn next.conn Went here.outside next.outside c.parts.ensures.sound c.requires.of stepped in
    record {
      rests = costed.rests at.rests;
      few = step-few g.W.World g.S.Sitting exact route c.args.now here.conn next.conn here.outside next.outside Went c.steps_owe_few.ensures at.few stepped;
      none = wrote-none here.conn next.conn at.nothing_out (step-wrote g.W.World g.S.Sitting exact route c.args.now here.conn next.conn here.outside next.outside stepped);
    }

pub returns-in-Idle-clause-owes : goal.returns-in-Idle-clause-owes
returns-in-Idle-clause-owes g c = λ at.
    let exact = g.B.Watched.exact in
    let route = c.args.route.now in
    let here : ConnAt g.row.S.Denot = conn_at g.D.Door g.B.Watched c.args.conn.now c.args.door.now c.args.backend.now in
    let next : ConnAt g.row.S.Denot = conn_at g.D.Door g.B.Watched c.step.new.self c.step.new.door c.step.new.backend in
    let stepped = c.in-Idle.ensures.stepped in
    let both = step-idle g.W.World g.S.Sitting exact route c.args.now here.conn next.conn here.outside next.outside stepped in
    let new = c.end_or_read.new.conn in
    behind-owes new (end_in c.end_or_read.result)
    (behind-idle here.conn next.conn new (end_in c.end_or_read.result) both.0 both.1
    (fed-calm next.conn new c.end_or_read.ensures.fed) c.end_or_read.ensures.out at)

pub returns-in-Memory-clause-takes : goal.returns-in-Memory-clause-takes
returns-in-Memory-clause-takes g c =
    let exact = g.B.Watched.exact in
    let route = c.args.route.now in
    let here : ConnAt g.row.S.Denot = conn_at g.D.Door g.B.Watched c.args.conn.now c.args.door.now c.args.backend.now in
    let next : ConnAt g.row.S.Denot = conn_at g.D.Door g.B.Watched c.step.new.self c.step.new.door c.step.new.backend in
    let stepped = c.in-Memory.ensures.stepped in
    record {
      answer = Memory;
      amid = next;
      step = record { now = c.args.now; of = c.requires.of; stepped = stepped };
      fed = refl;
      outside = refl;
    }

pub returns-in-NotYet-clause-takes : goal.returns-in-NotYet-clause-takes
returns-in-NotYet-clause-takes g c =
    let exact = g.B.Watched.exact in
    let route = c.args.route.now in
    let here : ConnAt g.row.S.Denot = conn_at g.D.Door g.B.Watched c.args.conn.now c.args.door.now c.args.backend.now in
    let next : ConnAt g.row.S.Denot = conn_at g.D.Door g.B.Watched c.step.new.self c.step.new.door c.step.new.backend in
    let stepped = c.in-NotYet.ensures.stepped in
    record {
      answer = NotYet;
      amid = next;
      step = record { now = c.args.now; of = c.requires.of; stepped = stepped };
      fed = refl;
      outside = refl;
    }

pub returns-in-Went-clause-takes : goal.returns-in-Went-clause-takes
returns-in-Went-clause-takes g c =
    let exact = g.B.Watched.exact in
    let route = c.args.route.now in
    let here : ConnAt g.row.S.Denot = conn_at g.D.Door g.B.Watched c.args.conn.now c.args.door.now c.args.backend.now in
    let next : ConnAt g.row.S.Denot = conn_at g.D.Door g.B.Watched c.step.new.self c.step.new.door c.step.new.backend in
    let stepped = c.in-Went.ensures.stepped in
    record {
      answer = Went;
      amid = next;
      step = record { now = c.args.now; of = c.requires.of; stepped = stepped };
      fed = refl;
      outside = refl;
    }

pub returns-in-Idle-clause-takes : goal.returns-in-Idle-clause-takes
returns-in-Idle-clause-takes g c =
    let exact = g.B.Watched.exact in
    let route = c.args.route.now in
    let here : ConnAt g.row.S.Denot = conn_at g.D.Door g.B.Watched c.args.conn.now c.args.door.now c.args.backend.now in
    let next : ConnAt g.row.S.Denot = conn_at g.D.Door g.B.Watched c.step.new.self c.step.new.door c.step.new.backend in
    let stepped = c.in-Idle.ensures.stepped in
    record {
      answer = Idle;
      amid = next;
      step = record { now = c.args.now; of = c.requires.of; stepped = stepped };
      fed = c.end_or_read.ensures.fed;
      outside = refl;
    }

pub returns-in-Memory-clause-reads : goal.returns-in-Memory-clause-reads
returns-in-Memory-clause-reads g c =
    reads-none c.args.left.now (source_view g.I.EdgeSource c.args.input.now) (source_view g.I.EdgeSource c.args.input.now) refl

pub returns-in-NotYet-clause-reads : goal.returns-in-NotYet-clause-reads
returns-in-NotYet-clause-reads g c =
    reads-none c.args.left.now (source_view g.I.EdgeSource c.args.input.now) (source_view g.I.EdgeSource c.args.input.now) refl

pub returns-in-Went-clause-reads : goal.returns-in-Went-clause-reads
returns-in-Went-clause-reads g c =
    reads-none c.args.left.now (source_view g.I.EdgeSource c.args.input.now) (source_view g.I.EdgeSource c.args.input.now) refl

pub returns-in-NotYet-clause-awaits : goal.returns-in-NotYet-clause-awaits
returns-in-NotYet-clause-awaits g c = λ from then.
    let exact = g.B.Watched.exact in
    let route = c.args.route.now in
    let here : ConnAt g.row.S.Denot = conn_at g.D.Door g.B.Watched c.args.conn.now c.args.door.now c.args.backend.now in
    let next : ConnAt g.row.S.Denot = conn_at g.D.Door g.B.Watched c.step.new.self c.step.new.door c.step.new.backend in
    let stepped = c.in-NotYet.ensures.stepped in
    (here, record { now = c.args.now; of = c.requires.of; stepped = stepped })

pub returns-in-Idle-clause-awaits : goal.returns-in-Idle-clause-awaits
returns-in-Idle-clause-awaits g c = λ from then.
    let exact = g.B.Watched.exact in
    let route = c.args.route.now in
    let here : ConnAt g.row.S.Denot = conn_at g.D.Door g.B.Watched c.args.conn.now c.args.door.now c.args.backend.now in
    let next : ConnAt g.row.S.Denot = conn_at g.D.Door g.B.Watched c.step.new.self c.step.new.door c.step.new.backend in
    let stepped = c.in-Idle.ensures.stepped in
    read-awaits g.W.World g.S.Sitting exact route c.end_or_read.result
    (conn_at g.D.Door g.B.Watched c.end_or_read.new.conn c.step.new.door c.step.new.backend)
    (g.I.EdgeSource.waits c.args.input.now) (g.I.EdgeSource.waits c.end_or_read.new.input) c.end_or_read.new.left from then
    c.end_or_read.ensures.awaits

pub returns-in-Memory-clause-awaits : goal.returns-in-Memory-clause-awaits
returns-in-Memory-clause-awaits g c = λ from then.
    tt

pub returns-in-Went-clause-awaits : goal.returns-in-Went-clause-awaits
returns-in-Went-clause-awaits g c = λ from then.
    tt

use Rattle.std.proofs.Common.{◌∙◌, ap, arith, IsSome, Option, refl, subst, sym}
use Rattle.z_types.specs.declared.marks.End.{End}
use Rattle.conn_served.specs.front_conn.steps.Drives.{ConnAt, conn_at}
use Rattle.conn_served.specs.front_conn.steps.States.{IsConnOf}
use Rattle.conn_served.specs.steps.Rounds.{GoesSo}
use Rattle.event_front.specs.Edges.{looks, source_view, streams}
use Rattle.event_front.specs.Polls.{IsAwaited, MakesFew, ReadsFew, most_read}
use Rattle.event_front.specs.Tasks.{Answers, Owes, Stands, TaskView}
use Rattle.event_front.specs.declared.tasks.Polled.TheVariants.{Pending}
use Rattle.event_front.proofs.PollLemmas.{made-none, reads-none, so-none}
use Rattle.event_front.proofs.TaskLemmas.{ended-answers}
use Rattle.event_front.proofs.tasks.ConnTask.poll.Goals as goal

pub returns-in-Some-clause-goes : goal.returns-in-Some-clause-goes
returns-in-Some-clause-goes g c = λ start at.
    at

pub returns-in-Some-clause-so : goal.returns-in-Some-clause-so
returns-in-Some-clause-so g c =
    let here : ConnAt g.row.S.Denot = conn_at g.D.Door g.B.Watched c.args.self.now.conn c.args.door.now c.args.backend.now in
    so-none g.W.World g.S.Sitting g.B.Watched.exact c.args.route.now c.costs_nothing.ensures here

pub returns-in-Some-clause-owes : goal.returns-in-Some-clause-owes
returns-in-Some-clause-owes g c = λ h.
    h

pub returns-in-Some-clause-steps : goal.returns-in-Some-clause-steps
returns-in-Some-clause-steps g c =
    let here : ConnAt g.row.S.Denot = conn_at g.D.Door g.B.Watched c.args.self.now.conn c.args.door.now c.args.backend.now in
    (0, made-none g.W.World g.S.Sitting g.B.Watched.exact c.args.route.now here, omega arith)

pub returns-in-Some-clause-reads : goal.returns-in-Some-clause-reads
returns-in-Some-clause-reads g c =
    let view = source_view g.I.EdgeSource c.args.self.now.input in (most_read, reads-none most_read view view refl)

pub returns-in-Some-clause-answers : goal.returns-in-Some-clause-answers
returns-in-Some-clause-answers g c =
    subst (λ (e : Option End). Answers e c.answer_of.result) (sym c.in-Some.is ∙ ap (λ (t : TaskView g.row.S.Denot g.row.I.Denot g.row.K.Denot). t.ended) c.self.view_is) c.answer_of.ensures

pub returns-in-Some-clause-over : goal.returns-in-Some-clause-over
returns-in-Some-clause-over g c = λ other.
    subst (λ (e : Option End). IsSome e) (sym c.in-Some.is ∙ ap (λ (t : TaskView g.row.S.Denot g.row.I.Denot g.row.K.Denot). t.ended) c.self.view_is) refl

pub returns-in-Some-clause-pending : goal.returns-in-Some-clause-pending
returns-in-Some-clause-pending g c = λ e.
    absurd (ended-answers c.in-Some.end c.answer_of.result c.answer_of.ensures e)

pub make_rounds-requires-clause-of : goal.make_rounds-requires-clause-of
make_rounds-requires-clause-of g c =
    subst (λ (t : TaskView g.row.S.Denot g.row.I.Denot g.row.K.Denot). IsConnOf g.W.World g.S.Sitting c.args.route.now (g.D.Door.counts c.args.door.now).most t.conn) (sym c.self.view_is)
    c.requires.of

pub returns-in-To-clause-goes : goal.returns-in-To-clause-goes
returns-in-To-clause-goes g c = λ start at.
    subst (λ (e : Option End). Stands g.W.World c.args.route.now start (streams g.I.EdgeSource g.K.EdgeSink c.make_rounds.new.input c.make_rounds.new.output) c.make_rounds.new.conn c.make_rounds.new.written e)
    (sym c.in_default.is)
    (c.in-To.ensures.goes start
    (subst (λ (e : Option End). Stands g.W.World c.args.route.now start
    (streams g.I.EdgeSource g.K.EdgeSink c.self.inside.input c.self.inside.output) c.self.inside.conn c.self.inside.written e)
    c.in_default.is
    (subst (λ (t : TaskView g.row.S.Denot g.row.I.Denot g.row.K.Denot). Stands g.W.World c.args.route.now start (streams g.I.EdgeSource g.K.EdgeSink t.input t.output) t.conn t.written t.ended)
    (sym c.self.view_is) at)))

pub returns-in-To-clause-so : goal.returns-in-To-clause-so
returns-in-To-clause-so g c =
    let new : ConnAt g.row.S.Denot = conn_at g.D.Door g.B.Watched c.make_rounds.new.conn c.make_rounds.new.door c.make_rounds.new.backend in
    subst (λ (t : TaskView g.row.S.Denot g.row.I.Denot g.row.K.Denot). GoesSo g.W.World g.S.Sitting g.B.Watched.exact c.args.route.now (conn_at g.D.Door g.B.Watched t.conn c.args.door.now c.args.backend.now) new)
    c.self.view_is c.in-To.ensures.so

pub returns-in-To-clause-owes : goal.returns-in-To-clause-owes
returns-in-To-clause-owes g c = λ h.
    subst (λ (e : Option End). Owes c.make_rounds.new.conn e) (sym c.in_default.is)
    (c.in-To.ensures.owes
    (subst (λ (e : Option End). Owes c.self.inside.conn e) c.in_default.is
    (subst (λ (t : TaskView g.row.S.Denot g.row.I.Denot g.row.K.Denot). Owes t.conn t.ended) (sym c.self.view_is) h)))

pub returns-in-To-clause-steps : goal.returns-in-To-clause-steps
returns-in-To-clause-steps g c =
    let new : ConnAt g.row.S.Denot = conn_at g.D.Door g.B.Watched c.make_rounds.new.conn c.make_rounds.new.door c.make_rounds.new.backend in
    subst (λ (t : TaskView g.row.S.Denot g.row.I.Denot g.row.K.Denot). MakesFew g.W.World g.S.Sitting g.B.Watched.exact c.args.route.now (conn_at g.D.Door g.B.Watched t.conn c.args.door.now c.args.backend.now) new)
    c.self.view_is c.in-To.ensures.steps

pub returns-in-To-clause-reads : goal.returns-in-To-clause-reads
returns-in-To-clause-reads g c =
    subst (λ (t : TaskView g.row.S.Denot g.row.I.Denot g.row.K.Denot). ReadsFew (source_view g.I.EdgeSource t.input) (source_view g.I.EdgeSource c.make_rounds.new.input))
    c.self.view_is c.in-To.ensures.reads

pub returns-in-End-clause-goes : goal.returns-in-End-clause-goes
returns-in-End-clause-goes g c = λ start at.
    c.in-End.ensures.goes start
    (subst (λ (e : Option End). Stands g.W.World c.args.route.now start
    (streams g.I.EdgeSource g.K.EdgeSink c.self.inside.input c.self.inside.output) c.self.inside.conn c.self.inside.written e)
    c.in_default.is
    (subst (λ (t : TaskView g.row.S.Denot g.row.I.Denot g.row.K.Denot). Stands g.W.World c.args.route.now start (streams g.I.EdgeSource g.K.EdgeSink t.input t.output) t.conn t.written t.ended)
    (sym c.self.view_is) at))

pub returns-in-End-clause-so : goal.returns-in-End-clause-so
returns-in-End-clause-so g c =
    let new : ConnAt g.row.S.Denot = conn_at g.D.Door g.B.Watched c.make_rounds.new.conn c.make_rounds.new.door c.make_rounds.new.backend in
    subst (λ (t : TaskView g.row.S.Denot g.row.I.Denot g.row.K.Denot). GoesSo g.W.World g.S.Sitting g.B.Watched.exact c.args.route.now (conn_at g.D.Door g.B.Watched t.conn c.args.door.now c.args.backend.now) new)
    c.self.view_is c.in-End.ensures.so

pub returns-in-End-clause-owes : goal.returns-in-End-clause-owes
returns-in-End-clause-owes g c = λ h.
    c.in-End.ensures.owes
    (subst (λ (e : Option End). Owes c.self.inside.conn e) c.in_default.is
    (subst (λ (t : TaskView g.row.S.Denot g.row.I.Denot g.row.K.Denot). Owes t.conn t.ended) (sym c.self.view_is) h))

pub returns-in-End-clause-steps : goal.returns-in-End-clause-steps
returns-in-End-clause-steps g c =
    let new : ConnAt g.row.S.Denot = conn_at g.D.Door g.B.Watched c.make_rounds.new.conn c.make_rounds.new.door c.make_rounds.new.backend in
    subst (λ (t : TaskView g.row.S.Denot g.row.I.Denot g.row.K.Denot). MakesFew g.W.World g.S.Sitting g.B.Watched.exact c.args.route.now (conn_at g.D.Door g.B.Watched t.conn c.args.door.now c.args.backend.now) new)
    c.self.view_is c.in-End.ensures.steps

pub returns-in-End-clause-reads : goal.returns-in-End-clause-reads
returns-in-End-clause-reads g c =
    subst (λ (t : TaskView g.row.S.Denot g.row.I.Denot g.row.K.Denot). ReadsFew (source_view g.I.EdgeSource t.input) (source_view g.I.EdgeSource c.make_rounds.new.input))
    c.self.view_is c.in-End.ensures.reads

pub returns-in-To-clause-answers : goal.returns-in-To-clause-answers
returns-in-To-clause-answers g c =
    subst (λ (e : Option End). Answers e Pending) (sym c.in_default.is) refl

pub returns-in-To-clause-over : goal.returns-in-To-clause-over
returns-in-To-clause-over g c = λ other.
    absurd (other refl)

pub returns-in-End-clause-over : goal.returns-in-End-clause-over
returns-in-End-clause-over g c = λ other.
    refl

pub returns-in-To-clause-pending : goal.returns-in-To-clause-pending
returns-in-To-clause-pending g c = λ e.
    let new : ConnAt g.row.S.Denot = conn_at g.D.Door g.B.Watched c.make_rounds.new.conn c.make_rounds.new.door c.make_rounds.new.backend in
    subst (λ (t : TaskView g.row.S.Denot g.row.I.Denot g.row.K.Denot). IsAwaited g.W.World g.S.Sitting g.B.Watched.exact c.args.route.now c.in-To.awaits
    (conn_at g.D.Door g.B.Watched t.conn c.args.door.now c.args.backend.now) new
    (looks g.I.EdgeSource g.K.EdgeSink t.input t.output)
    (looks g.I.EdgeSource g.K.EdgeSink c.make_rounds.new.input c.make_rounds.new.output)
    (source_view g.I.EdgeSource t.input) (source_view g.I.EdgeSource c.make_rounds.new.input))
    c.self.view_is c.in-To.ensures.awaits

pub returns-in-End-clause-pending : goal.returns-in-End-clause-pending
returns-in-End-clause-pending g c = λ e.
    absurd (ended-answers c.in-End.end c.answer_of-in-End.result c.answer_of-in-End.ensures e)

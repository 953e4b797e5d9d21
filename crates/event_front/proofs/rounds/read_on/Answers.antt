use Rattle.std.proofs.Common.{◌-◌, arith, inl, inr, refl, subst, sym, take}
use Rattle.z_types.specs.declared.marks.End.TheVariants as how
use Rattle.conn_served.specs.Serving.{IsServed}
use Rattle.conn_served.specs.front_conn.steps.States.{ConnectionState}
use Rattle.conn_served.specs.steps.Serving.{IsWrittenOut}
use Rattle.conn_served.proofs.RoundLemmas.{fed-writes}
use Rattle.conn_served.proofs.ServingLemmas.{serving-fed, serving-unfed, serving-unread}
use Rattle.event_front.specs.Edges.{source_view}
use Rattle.event_front.proofs.PollLemmas.{reads-none, reads-piece}
use Rattle.event_front.proofs.TaskLemmas.{read-over, read-waits}
use Rattle.event_front.proofs.rounds.read_on.Goals as goal

pub returns-in-Failed-clause-goes : goal.returns-in-Failed-clause-goes
returns-in-Failed-clause-goes g c = λ route start output at.
    serving-unread g.W.World g.S.Sitting route start c.head_is_refused.ensures.cut (source_view g.I.EdgeSource c.args.input.now)
    (source_view g.I.EdgeSource c.read_few.new.input)
    output c.args.conn.now c.requires.goes_on c.requires.rests c.requires.nothing_waits c.in-Failed.ensures.given
    (c.in-Failed.ensures.failed refl) at

pub returns-in-NotReady-clause-goes : goal.returns-in-NotReady-clause-goes
returns-in-NotReady-clause-goes g c = λ route start output at.
    read-waits g.W.World g.S.Sitting route start (source_view g.I.EdgeSource c.args.input.now) (source_view g.I.EdgeSource c.read_few.new.input)
    output c.args.conn.now c.requires.nothing_waits.goes_on c.in-NotReady.ensures.given c.in-NotReady.ensures.faults at

pub returns-in-End-clause-goes : goal.returns-in-End-clause-goes
returns-in-End-clause-goes g c = λ route start output at.
    subst
    (λ (s : ConnectionState g.row.S.Denot).
    IsWrittenOut g.W.World route start (record { input = source_view g.I.EdgeSource c.read_few.new.input; output = output }) s)
    (sym c.end_input.ensures)
    (read-over g.W.World g.S.Sitting route start (source_view g.I.EdgeSource c.args.input.now) (source_view g.I.EdgeSource c.read_few.new.input)
    output c.args.conn.now c.stands_when_ended.ensures c.requires.goes_on c.in-End.ensures.few c.in-End.ensures.given c.in-End.ensures.faults at)

pub returns-in-Ok-clause-goes : goal.returns-in-Ok-clause-goes
returns-in-Ok-clause-goes g c = λ route start output at.
    subst
    (λ (s : ConnectionState g.row.S.Denot).
    IsWrittenOut g.W.World route start (record { input = source_view g.I.EdgeSource c.read_few.new.input; output = output }) s)
    (sym c.in-Ok.ensures.ok)
    (serving-fed g.W.World g.S.Sitting route start (source_view g.I.EdgeSource c.args.input.now) (source_view g.I.EdgeSource c.read_few.new.input)
    output c.args.conn.now (take c.in-Bytes.count c.read_few.new.into) c.stands_when_fed.ensures c.requires.nothing_waits.goes_on
    c.in-Bytes.ensures.given c.in-Bytes.ensures.faults at)

pub returns-in-Err-clause-goes : goal.returns-in-Err-clause-goes
returns-in-Err-clause-goes g c = λ route start output at.
    subst
    (λ (s : ConnectionState g.row.S.Denot).
    IsServed g.W.World route start (record { input = source_view g.I.EdgeSource c.read_few.new.input; output = output }) s.marks how.Memory)
    (sym c.in-Err.ensures.err)
    (serving-unfed g.W.World g.S.Sitting route start (source_view g.I.EdgeSource c.args.input.now)
    (source_view g.I.EdgeSource c.read_few.new.input) output c.args.conn.now (take c.in-Bytes.count c.read_few.new.into)
    c.in-Bytes.ensures.given at)

pub returns-in-Failed-clause-reads : goal.returns-in-Failed-clause-reads
returns-in-Failed-clause-reads g c =
    reads-none c.args.left.now (source_view g.I.EdgeSource c.args.input.now) (source_view g.I.EdgeSource c.read_few.new.input)
    c.in-Failed.ensures.given

pub returns-in-NotReady-clause-reads : goal.returns-in-NotReady-clause-reads
returns-in-NotReady-clause-reads g c =
    reads-none c.args.left.now (source_view g.I.EdgeSource c.args.input.now) (source_view g.I.EdgeSource c.read_few.new.input)
    c.in-NotReady.ensures.given

pub returns-in-End-clause-reads : goal.returns-in-End-clause-reads
returns-in-End-clause-reads g c =
    reads-none c.args.left.now (source_view g.I.EdgeSource c.args.input.now) (source_view g.I.EdgeSource c.read_few.new.input)
    c.in-End.ensures.given

pub returns-in-Ok-clause-reads : goal.returns-in-Ok-clause-reads
returns-in-Ok-clause-reads g c =
    let few = c.in-Bytes.ensures.few in
    reads-piece c.args.left.now (c.args.left.now - c.in-Bytes.count) c.in-Bytes.count c.read_few.new.into
    (source_view g.I.EdgeSource c.args.input.now) (source_view g.I.EdgeSource c.read_few.new.input)
    c.in-Bytes.ensures.given (omega (arith, few.1)) (omega (arith, few.1))

pub returns-in-Err-clause-reads : goal.returns-in-Err-clause-reads
returns-in-Err-clause-reads g c =
    let few = c.in-Bytes.ensures.few in
    reads-piece c.args.left.now (c.args.left.now - c.in-Bytes.count) c.in-Bytes.count c.read_few.new.into
    (source_view g.I.EdgeSource c.args.input.now) (source_view g.I.EdgeSource c.read_few.new.input)
    c.in-Bytes.ensures.given (omega (arith, few.1)) (omega (arith, few.1))

pub returns-in-Failed-clause-fed : goal.returns-in-Failed-clause-fed
returns-in-Failed-clause-fed g c = inl refl

pub returns-in-NotReady-clause-fed : goal.returns-in-NotReady-clause-fed
returns-in-NotReady-clause-fed g c = inl refl

pub returns-in-End-clause-fed : goal.returns-in-End-clause-fed
returns-in-End-clause-fed g c = inr (inr c.end_input.ensures)

pub returns-in-Err-clause-fed : goal.returns-in-Err-clause-fed
returns-in-Err-clause-fed g c = inl c.in-Err.ensures.err

pub returns-in-Ok-clause-fed : goal.returns-in-Ok-clause-fed
returns-in-Ok-clause-fed g c = inr (inl (take c.in-Bytes.count c.read_few.new.into, c.in-Ok.ensures.ok))

pub returns-in-Ok-clause-out : goal.returns-in-Ok-clause-out
returns-in-Ok-clause-out g c = fed-writes c.args.conn.now c.feed.new.self (take c.in-Bytes.count c.read_few.new.into) c.in-Ok.ensures.ok

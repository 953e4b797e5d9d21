use Rattle.std.proofs.Common.{◌≤◌, ap, arith, inl, inr, ℕ, refl, sym, subst}
use Rattle.conn_served.specs.front_conn.steps.Drives.{ConnAt, conn_at}
use Rattle.conn_served.specs.front_conn.steps.States.{ConnectionState, IsConnOf}
use Rattle.conn_served.specs.front_conn_costs.steps.Conns.{dues_on}
use Rattle.conn_served.specs.steps.Rounds.{GoesSo, IsBetween}
use Rattle.event_front.specs.Edges.{sink_view, source_view, streams}
use Rattle.event_front.specs.Polls.{TakesStep}
use Rattle.event_front.specs.Tasks.{OwesFew, Stands}
use Rattle.event_front.specs.steps.Rounds.{end_in}
use Rattle.event_front.proofs.PollLemmas.{made-any, reads-none, so-none, so-written}
use Rattle.event_front.proofs.TaskLemmas.{step-stands, unwritten-owes, written-between}
use Rattle.event_front.proofs.rounds.make_round.Goals as goal

pub take_step-requires : goal.take_step-requires
take_step-requires g c =
    record {
      of = subst (λ (s : ConnectionState g.row.S.Denot). IsConnOf g.W.World g.S.Sitting c.args.route.now (g.D.Door.counts c.args.door.now).most s)
          (sym c.in-Whole.ensures.leaves.0)
          (c.stays_of_route.ensures c.args.route.now (g.D.Door.counts c.args.door.now).most c.args.conn.now c.requires.of).written;
    }

pub returns-in-Whole-clause-within : goal.returns-in-Whole-clause-within
returns-in-Whole-clause-within g c =
    omega (arith, c.in-Whole.ensures.leaves.1)

pub returns-in-Whole-clause-goes : goal.returns-in-Whole-clause-goes
returns-in-Whole-clause-goes g c = λ start at.
    let now = streams g.I.EdgeSource g.K.EdgeSink c.take_step.new.input c.write_out.new.output in
    subst (λ (n : ℕ). Stands g.W.World c.args.route.now start now c.take_step.new.conn n (end_in c.take_step.result))
    (sym c.in-Whole.ensures.leaves.1)
    (step-stands g.W.World g.S.Sitting c.args.route.now start now c.take_step.new.conn (end_in c.take_step.result)
    (c.take_step.ensures.goes start (sink_view g.K.EdgeSink c.write_out.new.output)
    (c.in-Whole.ensures.goes c.args.route.now start (source_view g.I.EdgeSource c.args.input.now) at)))

pub returns-in-Whole-clause-so : goal.returns-in-Whole-clause-so
returns-in-Whole-clause-so g c =
    let first : ConnAt g.row.S.Denot = conn_at g.D.Door g.B.Watched c.args.conn.now c.args.door.now c.args.backend.now in
    let last : ConnAt g.row.S.Denot = conn_at g.D.Door g.B.Watched c.take_step.new.conn c.take_step.new.door c.take_step.new.backend in
    so-written g.W.World g.S.Sitting g.B.Watched.exact c.args.route.now c.costs_nothing.ensures c.pays_on.ensures first last c.take_step.ensures.most
    (subst (λ (s : ConnectionState g.row.S.Denot). GoesSo g.W.World g.S.Sitting g.B.Watched.exact c.args.route.now (record { conn = s; outside = first.outside }) last)
    c.in-Whole.ensures.leaves.0 c.take_step.ensures.so)

pub returns-in-Whole-clause-owes : goal.returns-in-Whole-clause-owes
returns-in-Whole-clause-owes g c = λ h.
    c.take_step.ensures.owes
    (subst (λ (s : ConnectionState g.row.S.Denot). IsBetween s) (sym c.in-Whole.ensures.leaves.0) (written-between c.args.conn.now h))

pub returns-in-Whole-clause-makes : goal.returns-in-Whole-clause-makes
returns-in-Whole-clause-makes g c =
    let first : ConnAt g.row.S.Denot = conn_at g.D.Door g.B.Watched c.args.conn.now c.args.door.now c.args.backend.now in
    let last : ConnAt g.row.S.Denot = conn_at g.D.Door g.B.Watched c.take_step.new.conn c.take_step.new.door c.take_step.new.backend in
    made-any g.W.World g.S.Sitting g.B.Watched.exact c.args.route.now c.take_step.result first last
    (subst (λ (s : ConnectionState g.row.S.Denot). TakesStep g.W.World g.S.Sitting g.B.Watched.exact c.args.route.now (record { conn = s; outside = first.outside }) last)
    c.in-Whole.ensures.leaves.0 c.take_step.ensures.takes)

pub returns-in-Whole-clause-awaits : goal.returns-in-Whole-clause-awaits
returns-in-Whole-clause-awaits g c =
    c.take_step.ensures.awaits (g.K.EdgeSink.waits c.args.output.now) (g.K.EdgeSink.waits c.write_out.new.output)

pub returns-in-NotReady-clause-of : goal.returns-in-NotReady-clause-of
returns-in-NotReady-clause-of g c =
    subst (λ (s : ConnectionState g.row.S.Denot). IsConnOf g.W.World g.S.Sitting c.args.route.now (g.D.Door.counts c.args.door.now).most s)
    (sym c.in-NotReady.ensures.leaves) c.requires.of

pub returns-in-NotReady-clause-goes : goal.returns-in-NotReady-clause-goes
returns-in-NotReady-clause-goes g c = λ start at.
    c.in-NotReady.ensures.goes c.args.route.now start (source_view g.I.EdgeSource c.args.input.now) at

pub returns-in-NotReady-clause-so : goal.returns-in-NotReady-clause-so
returns-in-NotReady-clause-so g c =
    let first : ConnAt g.row.S.Denot = conn_at g.D.Door g.B.Watched c.args.conn.now c.args.door.now c.args.backend.now in
    subst (λ (s : ConnectionState g.row.S.Denot). GoesSo g.W.World g.S.Sitting g.B.Watched.exact c.args.route.now first (record { conn = s; outside = first.outside }))
    (sym c.in-NotReady.ensures.leaves) (so-none g.W.World g.S.Sitting g.B.Watched.exact c.args.route.now c.costs_nothing.ensures first)

pub returns-in-NotReady-clause-makes : goal.returns-in-NotReady-clause-makes
returns-in-NotReady-clause-makes g c =
    inl (ap (λ (s : ConnectionState g.row.S.Denot). conn_at g.D.Door g.B.Watched s c.args.door.now c.args.backend.now) c.in-NotReady.ensures.leaves)

pub returns-in-NotReady-clause-reads : goal.returns-in-NotReady-clause-reads
returns-in-NotReady-clause-reads g c =
    reads-none c.args.left.now (source_view g.I.EdgeSource c.args.input.now) (source_view g.I.EdgeSource c.args.input.now) refl

pub returns-in-Failed-clause-of : goal.returns-in-Failed-clause-of
returns-in-Failed-clause-of g c =
    subst (λ (s : ConnectionState g.row.S.Denot). IsConnOf g.W.World g.S.Sitting c.args.route.now (g.D.Door.counts c.args.door.now).most s)
    (sym c.in-Failed.ensures.leaves) c.requires.of

pub returns-in-Failed-clause-goes : goal.returns-in-Failed-clause-goes
returns-in-Failed-clause-goes g c = λ start at.
    c.in-Failed.ensures.goes c.args.route.now start (source_view g.I.EdgeSource c.args.input.now) at

pub returns-in-Failed-clause-so : goal.returns-in-Failed-clause-so
returns-in-Failed-clause-so g c =
    let first : ConnAt g.row.S.Denot = conn_at g.D.Door g.B.Watched c.args.conn.now c.args.door.now c.args.backend.now in
    subst (λ (s : ConnectionState g.row.S.Denot). GoesSo g.W.World g.S.Sitting g.B.Watched.exact c.args.route.now first (record { conn = s; outside = first.outside }))
    (sym c.in-Failed.ensures.leaves) (so-none g.W.World g.S.Sitting g.B.Watched.exact c.args.route.now c.costs_nothing.ensures first)

pub returns-in-Failed-clause-makes : goal.returns-in-Failed-clause-makes
returns-in-Failed-clause-makes g c =
    inl (ap (λ (s : ConnectionState g.row.S.Denot). conn_at g.D.Door g.B.Watched s c.args.door.now c.args.backend.now) c.in-Failed.ensures.leaves)

pub returns-in-Failed-clause-reads : goal.returns-in-Failed-clause-reads
returns-in-Failed-clause-reads g c =
    reads-none c.args.left.now (source_view g.I.EdgeSource c.args.input.now) (source_view g.I.EdgeSource c.args.input.now) refl

pub returns-in-NotReady-clause-owes : goal.returns-in-NotReady-clause-owes
returns-in-NotReady-clause-owes g c = λ h.
    subst (λ (s : ConnectionState g.row.S.Denot). OwesFew s) (sym c.in-NotReady.ensures.leaves) h

pub returns-in-Failed-clause-owes : goal.returns-in-Failed-clause-owes
returns-in-Failed-clause-owes g c = λ h.
    subst (λ (s : ConnectionState g.row.S.Denot). (dues_on s).unused ≤ 0) (sym c.in-Failed.ensures.leaves)
    (unwritten-owes c.args.conn.now c.write_out.new.written (c.in-Failed.ensures.some refl) h)

pub returns-in-NotReady-clause-awaits : goal.returns-in-NotReady-clause-awaits
returns-in-NotReady-clause-awaits g c =
    inr (c.in-NotReady.ensures.not_ready refl)

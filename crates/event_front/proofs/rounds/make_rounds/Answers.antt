use Rattle.std.proofs.Common.{◌≡◌, ◌∙◌, ℕ, Option, None, arith, inr, refl, subst}
use Rattle.conn_served.specs.front_conn.steps.Drives.{ConnAt, conn_at}
use Rattle.event_front.specs.Edges.{looks, source_view, streams}
use Rattle.event_front.specs.Polls.{MakesRounds, most_read, most_steps}
use Rattle.event_front.specs.Tasks.{Owes, Stands}
use Rattle.event_front.specs.declared.came.Came.{Came}
use Rattle.event_front.specs.steps.Rounds.{end_in}
use Rattle.event_front.proofs.PollLemmas.{last-awaits, made-few, made-more, made-none, made-on, reads-more, reads-none, so-none, so-then}
use Rattle.event_front.proofs.rounds.make_rounds.Goals as goal

pub loop-step-init : goal.loop-step-init
loop-step-init g c =
    let first : ConnAt g.row.S.Denot = conn_at g.D.Door g.B.Watched c.args.conn.now c.args.door.now c.args.backend.now in
    let view = source_view g.I.EdgeSource c.args.input.now in record {
      within = c.requires.within;
      of = c.requires.of;
      most = refl;
      goes = λ start at. at;
      so = so-none g.W.World g.S.Sitting g.B.Watched.exact c.args.route.now c.costs_nothing.ensures first;
      owes = λ h. h;
      steps = made-none g.W.World g.S.Sitting g.B.Watched.exact c.args.route.now first;
      reads = reads-none most_read view view refl;
      input = omega arith;
      output = omega arith;
    }

pub loop-step-preserved : goal.loop-step-preserved
loop-step-preserved g c =
    let first : ConnAt g.row.S.Denot = conn_at g.D.Door g.B.Watched c.args.conn.now c.args.door.now c.args.backend.now in
    let mid : ConnAt g.row.S.Denot = conn_at g.D.Door g.B.Watched c.loop-step.conn c.loop-step.door c.loop-step.backend in
    let last : ConnAt g.row.S.Denot = conn_at g.D.Door g.B.Watched c.make_round.new.conn c.make_round.new.door c.make_round.new.backend in
    let none : c.make_round.result ≡ None = c.in_default.is in
    let inputs = c.loop-step.invariant.input in
    let input = c.make_round.ensures.input in
    let outputs = c.loop-step.invariant.output in
    let output = c.make_round.ensures.output in record {
      within = c.make_round.ensures.within;
      of = c.make_round.ensures.of;
      most = c.make_round.ensures.most ∙ c.loop-step.invariant.most;
      goes = λ start at.
          subst (λ (e : Option Came). Stands g.W.World c.args.route.now start
          (streams g.I.EdgeSource g.K.EdgeSink c.make_round.new.input c.make_round.new.output)
          c.make_round.new.conn c.make_round.new.written (end_in e)) none
          (c.make_round.ensures.goes start (c.loop-step.invariant.goes start at));
      so = so-then g.W.World g.S.Sitting g.B.Watched.exact c.args.route.now c.pays_on.ensures first mid last c.make_round.ensures.most c.loop-step.invariant.so c.make_round.ensures.so;
      owes = λ h.
          subst (λ (e : Option Came). Owes c.make_round.new.conn (end_in e)) none
          (c.make_round.ensures.owes (c.loop-step.invariant.owes h));
      steps = made-more g.W.World g.S.Sitting g.B.Watched.exact c.args.route.now c.loop-step._step first mid last c.loop-step.invariant.steps
          (made-on g.W.World g.S.Sitting g.B.Watched.exact c.args.route.now c.make_round.result mid last none c.make_round.ensures.makes);
      reads = reads-more most_read c.loop-step.left c.make_round.new.left (source_view g.I.EdgeSource c.args.input.now)
          (source_view g.I.EdgeSource c.loop-step.input) (source_view g.I.EdgeSource c.make_round.new.input)
          c.loop-step.invariant.reads c.make_round.ensures.reads;
      input = omega (arith, inputs, input);
      output = omega (arith, outputs, output);
    }

pub returns-in-Some-clause-most : goal.returns-in-Some-clause-most
returns-in-Some-clause-most g c =
    c.in-Some.ensures.most ∙ c.loop-step.invariant.most

pub returns-in-Some-clause-goes : goal.returns-in-Some-clause-goes
returns-in-Some-clause-goes g c = λ start at.
    c.in-Some.ensures.goes start (c.loop-step.invariant.goes start at)

pub returns-in-Some-clause-so : goal.returns-in-Some-clause-so
returns-in-Some-clause-so g c =
    let first : ConnAt g.row.S.Denot = conn_at g.D.Door g.B.Watched c.args.conn.now c.args.door.now c.args.backend.now in
    let mid : ConnAt g.row.S.Denot = conn_at g.D.Door g.B.Watched c.loop-step.conn c.loop-step.door c.loop-step.backend in
    let last : ConnAt g.row.S.Denot = conn_at g.D.Door g.B.Watched c.make_round.new.conn c.make_round.new.door c.make_round.new.backend in
    so-then g.W.World g.S.Sitting g.B.Watched.exact c.args.route.now c.pays_on.ensures first mid last c.in-Some.ensures.most c.loop-step.invariant.so c.in-Some.ensures.so

pub returns-in-Some-clause-owes : goal.returns-in-Some-clause-owes
returns-in-Some-clause-owes g c = λ h.
    c.in-Some.ensures.owes (c.loop-step.invariant.owes h)

pub returns-in-Some-clause-steps : goal.returns-in-Some-clause-steps
returns-in-Some-clause-steps g c =
    let first : ConnAt g.row.S.Denot = conn_at g.D.Door g.B.Watched c.args.conn.now c.args.door.now c.args.backend.now in
    let mid : ConnAt g.row.S.Denot = conn_at g.D.Door g.B.Watched c.loop-step.conn c.loop-step.door c.loop-step.backend in
    let last : ConnAt g.row.S.Denot = conn_at g.D.Door g.B.Watched c.make_round.new.conn c.make_round.new.door c.make_round.new.backend in
    made-few g.W.World g.S.Sitting g.B.Watched.exact c.args.route.now c.in-Some.came c.loop-step._step first mid last (omega arith) c.loop-step.invariant.steps c.in-Some.ensures.makes

pub returns-in-Some-clause-reads : goal.returns-in-Some-clause-reads
returns-in-Some-clause-reads g c = (
  c.make_round.new.left,
  reads-more most_read c.loop-step.left c.make_round.new.left (source_view g.I.EdgeSource c.args.input.now)
      (source_view g.I.EdgeSource c.loop-step.input) (source_view g.I.EdgeSource c.make_round.new.input)
      c.loop-step.invariant.reads c.in-Some.ensures.reads,
)

pub returns-in-Some-clause-awaits : goal.returns-in-Some-clause-awaits
returns-in-Some-clause-awaits g c =
    let first : ConnAt g.row.S.Denot = conn_at g.D.Door g.B.Watched c.args.conn.now c.args.door.now c.args.backend.now in
    let last : ConnAt g.row.S.Denot = conn_at g.D.Door g.B.Watched c.make_round.new.conn c.make_round.new.door c.make_round.new.backend in
    last-awaits g.W.World g.S.Sitting g.B.Watched.exact c.args.route.now c.in-Some.came first last
    (looks g.I.EdgeSource g.K.EdgeSink c.args.input.now c.args.output.now)
    (looks g.I.EdgeSource g.K.EdgeSink c.loop-step.input c.loop-step.output)
    (looks g.I.EdgeSource g.K.EdgeSink c.make_round.new.input c.make_round.new.output)
    c.make_round.new.left (source_view g.I.EdgeSource c.args.input.now) (source_view g.I.EdgeSource c.make_round.new.input)
    c.loop-step.invariant.input c.loop-step.invariant.output
    (reads-more most_read c.loop-step.left c.make_round.new.left (source_view g.I.EdgeSource c.args.input.now)
    (source_view g.I.EdgeSource c.loop-step.input) (source_view g.I.EdgeSource c.make_round.new.input)
    c.loop-step.invariant.reads c.in-Some.ensures.reads)
    c.in-Some.ensures.awaits

pub returns-clause-steps : goal.returns-clause-steps
returns-clause-steps g c =
    (c.loop-step._step, c.loop-step.invariant.steps, omega arith)

pub returns-clause-reads : goal.returns-clause-reads
returns-clause-reads g c =
    (c.loop-step.left, c.loop-step.invariant.reads)

pub returns-clause-awaits : goal.returns-clause-awaits
returns-clause-awaits g c =
    let first : ConnAt g.row.S.Denot = conn_at g.D.Door g.B.Watched c.args.conn.now c.args.door.now c.args.backend.now in
    let mid : ConnAt g.row.S.Denot = conn_at g.D.Door g.B.Watched c.loop-step.conn c.loop-step.door c.loop-step.backend in
    let count : c.loop-step._step ≡ most_steps = omega arith in
    inr (subst (λ (n : ℕ). MakesRounds g.W.World g.S.Sitting g.B.Watched.exact c.args.route.now n first mid) count c.loop-step.invariant.steps)

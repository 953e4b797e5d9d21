use Rattle.std.proofs.Common.{Option, inl, refl, subst, sym}
use Rattle.z_types.specs.declared.marks.End.{End}
use Rattle.conn_served.specs.steps.Serving.{IsIdleAt}
use Rattle.conn_served.proofs.ServingLemmas.{serving-ended}
use Rattle.event_front.specs.Edges.{source_view}
use Rattle.event_front.proofs.PollLemmas.{reads-none}
use Rattle.event_front.proofs.rounds.end_or_read.Goals as goal

pub returns-in-Some-clause-goes : goal.returns-in-Some-clause-goes
returns-in-Some-clause-goes g c = λ route start output at.
    serving-ended g.W.World g.S.Sitting route start (record { input = source_view g.I.EdgeSource c.args.input.now; output = output })
    c.args.conn.now c.in-Some.end (sym c.in-Some.ensures) at

pub read_on-requires : goal.read_on-requires
read_on-requires g c =
    let idle = subst (λ (e : Option End). IsIdleAt e c.args.conn.now) (sym c.in-None.ensures) c.requires.idle in
    record { goes_on = sym c.in-None.ensures; rests = idle.0; nothing_waits = idle.1 }

pub returns-in-Some-clause-fed : goal.returns-in-Some-clause-fed
returns-in-Some-clause-fed g c = inl refl

pub returns-in-Some-clause-reads : goal.returns-in-Some-clause-reads
returns-in-Some-clause-reads g c =
    reads-none c.args.left.now (source_view g.I.EdgeSource c.args.input.now) (source_view g.I.EdgeSource c.args.input.now) refl

use Rattle.std.proofs.Common.{Option, inl, refl, sym, subst}
use Rattle.z_types.specs.declared.marks.End.{End}
use Rattle.conn_served.specs.Serving.{source_view}
use Rattle.conn_served.specs.steps.Serving.{IsIdleAt}
use Rattle.conn_served.proofs.ServingLemmas.{serving-ended}
use Rattle.serve.proofs.rounds.end_or_read.Goals as goal

pub returns-in-Some-clause-goes : goal.returns-in-Some-clause-goes
returns-in-Some-clause-goes g c = λ route start output at.
    serving-ended g.W.World g.S.Sitting route start (record { input = source_view g.I.Source c.args.source.now; output = output })
    c.args.conn.now c.in-Some.end (sym c.in-Some.ensures) at

pub read_on-requires : goal.read_on-requires
read_on-requires g c =
    let idle = subst (λ (e : Option End). IsIdleAt e c.args.conn.now) (sym c.in-None.ensures) c.requires.idle in
    record { goes_on = sym c.in-None.ensures; rests = idle.0; nothing_waits = idle.1 }

pub returns-in-Some-clause-calm : goal.returns-in-Some-clause-calm
returns-in-Some-clause-calm g c = inl refl

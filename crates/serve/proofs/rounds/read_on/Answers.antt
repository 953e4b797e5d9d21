use Rattle.std.proofs.Common.{inl, inr, sym, subst, refl, take}
use Rattle.z_types.specs.declared.marks.End.TheVariants as how
use Rattle.conn_served.specs.Serving.{IsServed, source_view}
use Rattle.conn_served.specs.steps.Serving.{IsWrittenOut}
use Rattle.conn_served.specs.front_conn.steps.States.{ConnectionState}
use Rattle.conn_served.proofs.RoundLemmas.{fed-writes}
use Rattle.conn_served.proofs.ServingLemmas.{serving-fed, serving-unfed, serving-unread}
use Rattle.serve.proofs.rounds.read_on.Goals as goal

pub returns-in-Failed-clause-goes : goal.returns-in-Failed-clause-goes
returns-in-Failed-clause-goes g c = λ route start output at.
    serving-unread g.W.World g.S.Sitting route start c.head_is_refused.ensures.cut (source_view g.I.Source c.args.source.now) (source_view g.I.Source c.read.new.self)
    output c.args.conn.now c.requires.goes_on c.requires.rests c.requires.nothing_waits c.in-Failed.ensures.given
    (c.in-Failed.ensures.failed refl) at

pub returns-in-Ok-clause-goes : goal.returns-in-Ok-clause-goes
returns-in-Ok-clause-goes g c = λ route start output at.
    subst
    (λ (s : ConnectionState g.row.S.Denot).
    IsWrittenOut g.W.World route start (record { input = source_view g.I.Source c.read.new.self; output = output }) s)
    (sym c.in-Ok.ensures.ok)
    (serving-fed g.W.World g.S.Sitting route start (source_view g.I.Source c.args.source.now) (source_view g.I.Source c.read.new.self)
    output c.args.conn.now (take c.in-Bytes.count c.read.new.into) c.stands_when_fed.ensures c.requires.nothing_waits.goes_on
    c.in-Bytes.ensures.given c.in-Bytes.ensures.faults at)

pub returns-in-Err-clause-goes : goal.returns-in-Err-clause-goes
returns-in-Err-clause-goes g c = λ route start output at.
    subst
    (λ (s : ConnectionState g.row.S.Denot).
    IsServed g.W.World route start (record { input = source_view g.I.Source c.read.new.self; output = output }) s.marks how.Memory)
    (sym c.in-Err.ensures.err)
    (serving-unfed g.W.World g.S.Sitting route start (source_view g.I.Source c.args.source.now)
    (source_view g.I.Source c.read.new.self) output c.args.conn.now (take c.in-Bytes.count c.read.new.into) c.in-Bytes.ensures.given at)

pub returns-in-Failed-clause-calm : goal.returns-in-Failed-clause-calm
returns-in-Failed-clause-calm g c = inl refl

pub returns-in-End-clause-calm : goal.returns-in-End-clause-calm
returns-in-End-clause-calm g c = inr (inr (inl c.end_input.ensures))

pub returns-in-Err-clause-calm : goal.returns-in-Err-clause-calm
returns-in-Err-clause-calm g c = inl c.in-Err.ensures.err

pub returns-in-Ok-clause-calm : goal.returns-in-Ok-clause-calm
returns-in-Ok-clause-calm g c = inr (inl (take c.in-Bytes.count c.read.new.into, c.in-Ok.ensures.ok))

pub returns-in-Ok-clause-out : goal.returns-in-Ok-clause-out
returns-in-Ok-clause-out g c = fed-writes c.args.conn.now c.feed.new.self (take c.in-Bytes.count c.read.new.into) c.in-Ok.ensures.ok

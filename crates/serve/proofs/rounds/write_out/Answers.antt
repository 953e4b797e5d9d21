use Rattle.std.proofs.Common.{◌≡◌, ◌∙◌, ℕ, List, [], inl, inr, length, nat_eq, refl, sym, subst, true}
use Rattle.std.proofs.lemmas.Bool.{eqb-true}
use Rattle.std.proofs.lemmas.List.{nil_from_length}
use Rattle.conn_served.specs.Serving.{sink_view}
use Rattle.conn_served.specs.steps.Serving.{IsWrittenOut}
use Rattle.conn_served.specs.front_conn.steps.States.{ConnectionState, IsConnOf}
use Rattle.conn_served.proofs.ServingLemmas.{serving-unwritten, serving-written}
use Rattle.serve.proofs.rounds.write_out.Goals as goal

nil-out : (octets : List ℕ) → nat_eq (length octets) 0 ≡ true → octets ≡ []
nil-out octets e = nil_from_length octets (eqb-true (length octets) 0 e)

pub returns-then-not-write_all-clause-goes : goal.returns-then-not-write_all-clause-goes
returns-then-not-write_all-clause-goes g c = λ route start input serving.
    serving-unwritten g.W.World g.S.Sitting route start input (sink_view g.K.Sink c.args.sink.now)
    (sink_view g.K.Sink c.write_all.new.sink) c.args.conn.now
    (rw c.out-2.ensures at (c.write_all.ensures.part c.if-not-write_all.true)) (c.write_all.ensures.cause c.if-not-write_all.true) serving

pub returns-clause-of : goal.returns-clause-of
returns-clause-of g c = λ route most of.
    subst (λ (s : ConnectionState g.row.S.Denot). IsConnOf g.W.World g.S.Sitting route most s) (sym c.clear_out.ensures)
    (c.stays_of_route.ensures route most c.args.conn.now of).written

pub returns-clause-goes : goal.returns-clause-goes
returns-clause-goes g c = λ route start input serving.
    subst
    (λ (s : ConnectionState g.row.S.Denot).
    IsWrittenOut g.W.World route start (record { input = input; output = sink_view g.K.Sink c.write_all.new.sink }) s)
    (sym c.clear_out.ensures)
    (serving-written g.W.World g.S.Sitting route start input (sink_view g.K.Sink c.args.sink.now)
    (sink_view g.K.Sink c.write_all.new.sink) c.args.conn.now c.stands_when_written.ensures
    (rw c.out-2.ensures at (c.write_all.ensures.all c.if-not-write_all.false)) c.write_all.ensures.faults serving)

pub returns-then-not-write_all-clause-calm : goal.returns-then-not-write_all-clause-calm
returns-then-not-write_all-clause-calm g c = inl refl

pub returns-clause-calm : goal.returns-clause-calm
returns-clause-calm g c = inr (inr (inr c.clear_out.ensures))

pub returns-then-is_empty-clause-goes : goal.returns-then-is_empty-clause-goes
returns-then-is_empty-clause-goes g c = λ route start input serving. record { serving = serving; nothing_out = sym c.out.ensures ∙ nil-out c.out.result.now (sym c.is_empty.ensures ∙ c.if-is_empty.true) }

pub returns-then-is_empty-clause-written : goal.returns-then-is_empty-clause-written
returns-then-is_empty-clause-written g c = sym c.out.ensures ∙ nil-out c.out.result.now (sym c.is_empty.ensures ∙ c.if-is_empty.true)

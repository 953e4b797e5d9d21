use Rattle.std.proofs.Common.{◌∙◌, IsSome, ap, refl, subst, sym}
use Rattle.front_conn.specs.steps.States.{ConnectionState}
use Rattle.front_conn.proofs.TurnedLemmas.{is-none, is-some, stepped-ahead, stepped-ended, stepped-turned}
use Rattle.front_conn.proofs.conn.Conn.step.Goals as goal

pub returns-then-is_some-clause-stepped : goal.returns-then-is_some-clause-stepped
returns-then-is_some-clause-stepped g c =
    stepped-ended g.W.World g.S.Sitting g.B.Watched.exact c.args.route.now c.args.now c.args.self.now _ _ _ _
    (subst (λ (s : ConnectionState g.row.S.Denot). IsSome s.end) c.self.view_is
    (is-some c.self.inside.end (sym c.is_some.ensures ∙ c.if-is_some.true))) refl refl refl

pub returns-then-is_some-clause-keeps : goal.returns-then-is_some-clause-keeps
returns-then-is_some-clause-keeps g c = λ fair fed written h. h

pub turn-requires-clause-goes_on : goal.turn-requires-clause-goes_on
turn-requires-clause-goes_on g c =
    sym (ap (λ (s : ConnectionState g.row.S.Denot). s.end) c.self.view_is) ∙ is-none c.self.inside.end (sym c.is_some.ensures ∙ c.if-is_some.false)

pub turn-requires-clause-works : goal.turn-requires-clause-works
turn-requires-clause-works g c =
    subst (λ (s : ConnectionState g.row.S.Denot). IsSome s.in_work) c.self.view_is
    (is-some c.self.inside.answering.in_work (sym c.is_in_work.ensures ∙ c.if-is_in_work.true))

pub turn-requires-clause-of : goal.turn-requires-clause-of
turn-requires-clause-of g c =
    (c.requires.of (sym (ap (λ (s : ConnectionState g.row.S.Denot). s.end) c.self.view_is)
    ∙ is-none c.self.inside.end (sym c.is_some.ensures ∙ c.if-is_some.false))).in_work

pub turn-requires-clause-sets : goal.turn-requires-clause-sets
turn-requires-clause-sets g c =
    (c.requires.of (sym (ap (λ (s : ConnectionState g.row.S.Denot). s.end) c.self.view_is)
    ∙ is-none c.self.inside.end (sym c.is_some.ensures ∙ c.if-is_some.false))).sets

pub go_ahead-requires-clause-goes_on : goal.go_ahead-requires-clause-goes_on
go_ahead-requires-clause-goes_on g c =
    sym (ap (λ (s : ConnectionState g.row.S.Denot). s.end) c.self.view_is) ∙ is-none c.self.inside.end (sym c.is_some.ensures ∙ c.if-is_some.false)

pub go_ahead-requires-clause-rests : goal.go_ahead-requires-clause-rests
go_ahead-requires-clause-rests g c =
    sym (ap (λ (s : ConnectionState g.row.S.Denot). s.in_work) c.self.view_is)
    ∙ is-none c.self.inside.answering.in_work (sym c.is_in_work.ensures ∙ c.if-is_in_work.false)

pub go_ahead-requires-clause-sets : goal.go_ahead-requires-clause-sets
go_ahead-requires-clause-sets g c =
    (c.requires.of (sym (ap (λ (s : ConnectionState g.row.S.Denot). s.end) c.self.view_is)
    ∙ is-none c.self.inside.end (sym c.is_some.ensures ∙ c.if-is_some.false))).sets

pub returns-then-is_in_work-clause-stepped : goal.returns-then-is_in_work-clause-stepped
returns-then-is_in_work-clause-stepped g c =
    stepped-turned g.W.World g.S.Sitting g.B.Watched.exact c.args.route.now c.args.now c.args.self.now c.turn.new.self c.turn.result _ _
    (sym (ap (λ (s : ConnectionState g.row.S.Denot). s.end) c.self.view_is) ∙ is-none c.self.inside.end (sym c.is_some.ensures ∙ c.if-is_some.false))
    (subst (λ (s : ConnectionState g.row.S.Denot). IsSome s.in_work) c.self.view_is
    (is-some c.self.inside.answering.in_work (sym c.is_in_work.ensures ∙ c.if-is_in_work.true))) c.turn.ensures.turns

pub returns-clause-stepped : goal.returns-clause-stepped
returns-clause-stepped g c =
    stepped-ahead g.W.World g.S.Sitting g.B.Watched.exact c.args.route.now c.args.now c.args.self.now c.go_ahead.new.self c.go_ahead.result _ _
    (sym (ap (λ (s : ConnectionState g.row.S.Denot). s.end) c.self.view_is) ∙ is-none c.self.inside.end (sym c.is_some.ensures ∙ c.if-is_some.false))
    (sym (ap (λ (s : ConnectionState g.row.S.Denot). s.in_work) c.self.view_is)
    ∙ is-none c.self.inside.answering.in_work (sym c.is_in_work.ensures ∙ c.if-is_in_work.false)) c.go_ahead.ensures.goes refl

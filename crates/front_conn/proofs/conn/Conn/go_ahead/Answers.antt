use Rattle.std.proofs.Common.{◌∙◌, ap, subst, sym}
use Rattle.std.specs.List.{AllByRecursion}
use Rattle.front_conn.specs.steps.States.{ConnectionState, HasLegsOf}
use Rattle.front_conn.specs.steps.Steps.{GoesAhead, KeepsState, UnlessMemory}
use Rattle.front_conn.proofs.StepLemmas.{goes-nothing, of-same, same-keeps}
use Rattle.front_conn.proofs.conn.Conn.go_ahead.Goals as goal

pub returns-then-awaits_more-clause-goes : goal.returns-then-awaits_more-clause-goes
returns-then-awaits_more-clause-goes g c =
    goes-nothing c.args.route.now _ _ _ _ _ c.args.self.now c.self.view_is (c.awaits_more.ensures.ahead c.if-awaits_more.true)

pub returns-then-awaits_more-clause-of : goal.returns-then-awaits_more-clause-of
returns-then-awaits_more-clause-of g c = λ most goes.
    of-same g.W.World g.S.Sitting c.args.route.now most c.self.inside.answering
    (subst (λ (s : ConnectionState g.row.S.Denot). AllByRecursion (HasLegsOf c.args.route.now) s.session.sets) (sym c.self.view_is) c.requires.sets)
    (ap (λ (s : ConnectionState g.row.S.Denot). s.in_work) c.self.view_is ∙ c.requires.rests)

pub returns-then-awaits_more-clause-keeps : goal.returns-then-awaits_more-clause-keeps
returns-then-awaits_more-clause-keeps g c =
    same-keeps g.W.World c.args.route.now c.args.self.now _
    (goes-nothing c.args.route.now _ _ _ _ _ c.args.self.now c.self.view_is (c.awaits_more.ensures.ahead c.if-awaits_more.true)).1

pub returns-clause-goes : goal.returns-clause-goes
returns-clause-goes g c =
    subst (λ (s : ConnectionState g.row.S.Denot). GoesAhead c.args.route.now s c.take_next.new.self c.take_next.result) c.self.view_is
    c.take_next.ensures.goes

pub returns-clause-keeps : goal.returns-clause-keeps
returns-clause-keeps g c =
    subst
    (λ (s : ConnectionState g.row.S.Denot).
    UnlessMemory c.take_next.result (KeepsState g.W.World c.args.route.now s c.take_next.new.self))
    c.self.view_is c.take_next.ensures.keeps

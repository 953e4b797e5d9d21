use Rattle.std.proofs.Common.{◌∙◌, ap, subst, sym}
use Rattle.std.specs.List.{AllByRecursion}
use Rattle.front_conn.specs.steps.States.{ConnectionState, HasLegsOf}
use Rattle.front_conn.proofs.StepLemmas.{bad-stays, begun-err, begun-of, begun-ok, ended-stays, goes-bad, goes-ended, goes-head, goes-nothing, goes-whole, head-of, keeps-bad, keeps-ended, keeps-head, keeps-whole, of-same, same-keeps}
use Rattle.front_conn.proofs.conn.Conn.take_next.Goals as goal

pub returns-in-Nothing-clause-goes : goal.returns-in-Nothing-clause-goes
returns-in-Nothing-clause-goes g c = goes-nothing c.args.route.now _ _ _ _ _ c.args.self.now c.self.view_is c.in-Nothing.ensures.ahead

pub returns-in-Nothing-clause-of : goal.returns-in-Nothing-clause-of
returns-in-Nothing-clause-of g c = λ most goes.
    of-same g.W.World g.S.Sitting c.args.route.now most c.self.inside.answering
    (subst (λ (s : ConnectionState g.row.S.Denot). AllByRecursion (HasLegsOf c.args.route.now) s.session.sets) (sym c.self.view_is) c.requires.sets)
    (ap (λ (s : ConnectionState g.row.S.Denot). s.in_work) c.self.view_is ∙ c.requires.rests)

pub returns-in-Nothing-clause-keeps : goal.returns-in-Nothing-clause-keeps
returns-in-Nothing-clause-keeps g c =
    same-keeps g.W.World c.args.route.now c.args.self.now _
    (goes-nothing c.args.route.now _ _ _ _ _ c.args.self.now c.self.view_is c.in-Nothing.ensures.ahead).1

pub returns-in-Ended-clause-goes : goal.returns-in-Ended-clause-goes
returns-in-Ended-clause-goes g c =
    goes-ended c.args.route.now _ _ _ _ _ _ c.args.self.now c.in-Ended.end _ c.self.view_is c.in-Ended.ensures.ahead c.end_step.ensures

pub returns-in-Ended-clause-of : goal.returns-in-Ended-clause-of
returns-in-Ended-clause-of g c = λ most goes. ended-stays c.in-Ended.end _ _ c.end_step.ensures goes

pub returns-in-Ended-clause-keeps : goal.returns-in-Ended-clause-keeps
returns-in-Ended-clause-keeps g c =
    keeps-ended g.W.World c.head_is_refused.ensures.cut c.args.route.now _ _ _ _ _ _ c.args.self.now c.in-Ended.end _ c.self.view_is
    (ap (λ (s : ConnectionState g.row.S.Denot). s.end) c.self.view_is ∙ c.requires.goes_on)
    (ap (λ (s : ConnectionState g.row.S.Denot). s.in_work) c.self.view_is ∙ c.requires.rests) c.in-Ended.ensures.ahead c.end_step.ensures

pub returns-in-Bad-clause-goes : goal.returns-in-Bad-clause-goes
returns-in-Bad-clause-goes g c =
    goes-bad c.args.route.now _ _ _ _ _ _ _ c.args.self.now c.in-Bad.at c.refuse-done.result _ c.self.view_is
    (ap (λ (s : ConnectionState g.row.S.Denot). s.in_work) c.self.view_is ∙ c.requires.rests) c.in-Bad.ensures.ahead c.refuse-done.ensures.ok
    c.refuse-done.ensures.written c.refuse-done.ensures.err c.end_step-in-Bad.ensures

pub returns-in-Bad-clause-of : goal.returns-in-Bad-clause-of
returns-in-Bad-clause-of g c = λ most goes.
    bad-stays c.refuse-done.result c.in-Bad.at _ _ c.refuse-done.ensures.ok c.end_step-in-Bad.ensures goes

pub returns-in-Bad-clause-keeps : goal.returns-in-Bad-clause-keeps
returns-in-Bad-clause-keeps g c =
    keeps-bad g.W.World c.args.route.now _ _ _ _ _ _ _ c.args.self.now c.in-Bad.at c.refuse-done.result _ c.self.view_is
    (ap (λ (s : ConnectionState g.row.S.Denot). s.end) c.self.view_is ∙ c.requires.goes_on)
    (ap (λ (s : ConnectionState g.row.S.Denot). s.in_work) c.self.view_is ∙ c.requires.rests) c.in-Bad.ensures.ahead c.refuse-done.ensures.ok
    c.refuse-done.ensures.written c.end_step-in-Bad.ensures

pub returns-in-Whole-clause-goes : goal.returns-in-Whole-clause-goes
returns-in-Whole-clause-goes g c =
    goes-whole c.args.route.now _ _ _ _ _ _ _ c.args.self.now _ _ _ c.begin-done.result _ c.self.view_is c.in-Whole.ensures.ahead c.unit-unit.ensures
    (begun-ok g.W.World g.S.Sitting c.args.route.now _ _ _ _ c.begin-done.result c.begin-done.ensures)
    (begun-err g.W.World g.S.Sitting c.args.route.now _ _ _ _ c.begin-done.result c.begin-done.ensures) c.end_step-in-Whole.ensures

pub returns-in-Whole-clause-of : goal.returns-in-Whole-clause-of
returns-in-Whole-clause-of g c = λ most goes.
    begun-of g.W.World g.S.Sitting c.args.route.now _ _ c.self.inside.answering c.begin-done.new.self most c.begin-done.result _ _
    (subst (λ (s : ConnectionState g.row.S.Denot). AllByRecursion (HasLegsOf c.args.route.now) s.session.sets) (sym c.self.view_is) c.requires.sets)
    c.begin-done.ensures c.end_step-in-Whole.ensures goes

pub returns-in-Whole-clause-keeps : goal.returns-in-Whole-clause-keeps
returns-in-Whole-clause-keeps g c =
    keeps-whole g.W.World c.args.route.now _ _ _ _ _ _ _ c.args.self.now _ _ _ c.begin-done.result _ c.self.view_is
    (ap (λ (s : ConnectionState g.row.S.Denot). s.end) c.self.view_is ∙ c.requires.goes_on)
    (ap (λ (s : ConnectionState g.row.S.Denot). s.in_work) c.self.view_is ∙ c.requires.rests) c.in-Whole.ensures.ahead c.unit-unit.ensures
    (begun-ok g.W.World g.S.Sitting c.args.route.now _ _ _ _ c.begin-done.result c.begin-done.ensures) c.end_step-in-Whole.ensures

pub returns-in-Head-clause-goes : goal.returns-in-Head-clause-goes
returns-in-Head-clause-goes g c =
    goes-head g.W.World g.S.Sitting c.args.route.now _ _ _ _ _ _ _ c.args.self.now c.in-Head.head c.self.view_is c.in-Head.ensures.ahead
    c.begin_head-done.result _ c.begin_head-done.ensures c.end_step-in-Head.ensures

pub returns-in-Head-clause-of : goal.returns-in-Head-clause-of
returns-in-Head-clause-of g c = λ most goes.
    head-of g.W.World g.S.Sitting c.args.route.now _ _ c.self.inside.answering c.begin_head-done.new.self _ _ _ c.args.self.now c.in-Head.head
    c.self.view_is c.in-Head.ensures.ahead most c.begin_head-done.result _
    (subst (λ (s : ConnectionState g.row.S.Denot). AllByRecursion (HasLegsOf c.args.route.now) s.session.sets) (sym c.self.view_is) c.requires.sets)
    c.begin_head-done.ensures c.end_step-in-Head.ensures goes

pub returns-in-Head-clause-keeps : goal.returns-in-Head-clause-keeps
returns-in-Head-clause-keeps g c =
    keeps-head g.W.World g.S.Sitting c.args.route.now _ _ _ _ _ _ _ c.args.self.now c.in-Head.head c.self.view_is c.in-Head.ensures.ahead
    c.heads_answer.ensures.answered c.heads_answer.ensures.stands
    (ap (λ (s : ConnectionState g.row.S.Denot). s.end) c.self.view_is ∙ c.requires.goes_on)
    (ap (λ (s : ConnectionState g.row.S.Denot). s.in_work) c.self.view_is ∙ c.requires.rests)
    c.begin_head-done.result _ c.begin_head-done.ensures c.end_step-in-Head.ensures

use Rattle.std.proofs.Common.{◌∙◌, refl, subst, sym}
use Rattle.std.specs.List.{AllByRecursion}
use Rattle.front_conn.specs.steps.Answering.{AnsweringState}
use Rattle.front_conn.specs.steps.States.{HasLegsOf}
use Rattle.front_conn.proofs.AnsweringLemmas.{work-is-there}
use Rattle.front_conn.proofs.BegunLemmas.{not-err, unbegun-so, works-so, written-so}
use Rattle.front_conn.proofs.answering.Answering.begin.Goals as goal

pub start-requires-clause-there : goal.start-requires-clause-there
start-requires-clause-there g c =
    work-is-there c.args.route.now _ _ _ _ c.in-Work.work c.parts.ensures.sound
    (subst (λ (a : AnsweringState g.row.S.Denot). AllByRecursion (HasLegsOf c.args.route.now) a.session.sets) (sym c.self.view_is) c.requires.sets)
    c.in-Work.ensures

pub returns-in-Write : goal.returns-in-Write
returns-in-Write g c =
    written-so g.W.World g.S.Sitting c.args.route.now c.args.at c.args.unit.now _ c.args.self.now _ _ c.make_totals.new.totals _ c.new.result c.self.view_is
    (not-err c.make_totals.result _ (sym c.is_err.ensures.value ∙ c.if-is_err.false) c.make_totals.ensures.ok) c.requires.idle c.new.ensures
    c.in-Write.mark c.in-Write.end c.len-written.result c.list.result c.len-written.ensures c.in-Write.ensures c.list.ensures

pub returns-in-Work : goal.returns-in-Work
returns-in-Work g c =
    works-so g.W.World g.S.Sitting c.args.route.now c.args.at c.args.unit.now _ c.args.self.now _ _ c.make_totals.new.totals _ c.new.result c.self.view_is
    (not-err c.make_totals.result _ (sym c.is_err.ensures.value ∙ c.if-is_err.false) c.make_totals.ensures.ok) c.requires.idle c.new.ensures
    c.in-Work.work c.start.result c.in-Work.ensures c.start.ensures

pub returns-in-Memory : goal.returns-in-Memory
returns-in-Memory g c =
    unbegun-so g.W.World g.S.Sitting c.args.route.now c.args.at c.args.unit.now _ c.args.self.now _ _ c.make_totals.new.totals _ c.new.result c.self.view_is
    (not-err c.make_totals.result _ (sym c.is_err.ensures.value ∙ c.if-is_err.false) c.make_totals.ensures.ok) c.requires.idle c.new.ensures
    _ c.in-Memory.ensures refl

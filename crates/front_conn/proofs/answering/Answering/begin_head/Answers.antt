use Rattle.std.proofs.Common.{◌∙◌, refl, sym}
use Rattle.front_conn.proofs.BegunLemmas.{not-err}
use Rattle.front_conn.proofs.HeadLemmas.{head-is-there, head-unbegun-so, head-works-so, head-written-so}
use Rattle.front_conn.proofs.answering.Answering.begin_head.Goals as goal

pub start-requires-clause-there : goal.start-requires-clause-there
start-requires-clause-there g c =
    head-is-there c.args.route.now c.args.head _ _ c.in-Work.work c.parts.ensures.sound c.in-Work.ensures.begun

pub returns-in-Write : goal.returns-in-Write
returns-in-Write g c =
    head-written-so g.W.World g.S.Sitting c.args.route.now c.args.head _ c.args.self.now _ _ c.make_totals.new.totals _ c.self.view_is
    (not-err c.make_totals.result _ (sym c.is_err.ensures.value ∙ c.if-is_err.false) c.make_totals.ensures.ok) c.requires.idle
    c.in-Write.mark c.in-Write.end c.len-written.result c.list.result c.len-written.ensures c.in-Write.ensures.begun c.list.ensures

pub returns-in-Work : goal.returns-in-Work
returns-in-Work g c =
    head-works-so g.W.World g.S.Sitting c.args.route.now c.args.head _ c.args.self.now _ _ c.make_totals.new.totals _ c.self.view_is
    (not-err c.make_totals.result _ (sym c.is_err.ensures.value ∙ c.if-is_err.false) c.make_totals.ensures.ok) c.requires.idle
    c.in-Work.work c.start.result c.in-Work.ensures.begun c.in-Work.ensures.awaited c.start.ensures

pub returns-in-Memory : goal.returns-in-Memory
returns-in-Memory g c =
    head-unbegun-so g.W.World g.S.Sitting c.args.route.now c.args.head _ c.args.self.now _ _ c.make_totals.new.totals _ c.self.view_is
    (not-err c.make_totals.result _ (sym c.is_err.ensures.value ∙ c.if-is_err.false) c.make_totals.ensures.ok) c.requires.idle
    _ c.in-Memory.ensures.begun refl

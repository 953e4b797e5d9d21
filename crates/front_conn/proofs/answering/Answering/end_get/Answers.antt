use Rattle.std.proofs.Common.{refl}
use Rattle.front_conn.proofs.GetLemmas.{fetch-there, get-unended, get-works, get-works-ready, get-written, works-here}
use Rattle.front_conn.proofs.answering.Answering.end_get.Goals as goal

pub start-requires-clause-there : goal.start-requires-clause-there
start-requires-clause-there g c =
    fetch-there c.args.route.now c.in_ok-outcome.outcome _ _ c.args.done.work c.in-Work.work
    (works-here c.args.route.now _ c.args.self.now c.self.view_is c.args.done.work c.requires.waits) c.in-Work.ensures.ended
    c.requires.asks.there

pub returns-in-Write-clause-ended : goal.returns-in-Write-clause-ended
returns-in-Write-clause-ended g c =
    get-written g.W.World g.S.Sitting c.args.route.now _ c.args.self.now _ c.self.view_is c.args.done _ _ c.in_ok-outcome.outcome
    c.in_ok-outcome.ensures.outcome c.requires.rests c.requires.waits c.finished_has_mark.ensures c.in-Write.mark c.in-Write.end
    c.len-written.result c.list.result c.len-written.ensures c.in-Write.ensures.ended c.list.ensures

pub returns-in-Work-clause-ended : goal.returns-in-Work-clause-ended
returns-in-Work-clause-ended g c =
    get-works g.W.World g.S.Sitting c.args.route.now _ c.args.self.now _ c.self.view_is c.args.done _ _ c.in_ok-outcome.outcome
    c.in_ok-outcome.ensures.outcome c.requires.rests c.requires.waits c.in-Work.work c.start.result c.in-Work.ensures.ended c.start.ensures

pub returns-in-Work-clause-ready : goal.returns-in-Work-clause-ready
returns-in-Work-clause-ready g c =
    get-works-ready g.W.World g.S.Sitting c.args.route.now _ c.args.self.now _ c.self.view_is c.args.done _ _ c.in_ok-outcome.outcome
    c.in_ok-outcome.ensures.outcome c.requires.rests c.requires.waits c.in-Work.work c.start.result c.in-Work.ensures.awaited c.start.ensures

pub returns-in-Memory-clause-ended : goal.returns-in-Memory-clause-ended
returns-in-Memory-clause-ended g c =
    get-unended g.W.World g.S.Sitting c.args.route.now _ c.args.self.now _ c.self.view_is c.args.done _ _ c.in_ok-outcome.outcome
    c.in_ok-outcome.ensures.outcome c.requires.rests c.requires.waits _ c.in-Memory.ensures.ended refl

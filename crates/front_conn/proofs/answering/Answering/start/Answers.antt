use Rattle.front_conn.proofs.BegunLemmas.{work-begun}
use Rattle.front_conn.proofs.answering.Answering.start.Goals as goal

pub returns-in-Ok : goal.returns-in-Ok
returns-in-Ok g c =
    work-begun g.W.World g.S.Sitting c.args.route.now _ c.args.self.now _ c.in-Ok.begun c.args.work c.self.view_is c.fill.ensures
    c.in-Ok.ensures.new c.in-Ok.ensures.of

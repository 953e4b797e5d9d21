use Rattle.front_conn.proofs.EndedLemmas.{fits-here, request-ended, request-ready, waits-here}
use Rattle.front_conn.proofs.answering.Answering.end_request.Goals as goal

pub settle-requires-clause-waits : goal.settle-requires-clause-waits
settle-requires-clause-waits g c = waits-here _ c.args.self.now c.self.view_is c.args.done.work c.requires.waits

pub settle-requires-clause-fits : goal.settle-requires-clause-fits
settle-requires-clause-fits g c = fits-here _ c.args.self.now c.self.view_is c.args.done.work _ c.requires.waits c.requires.fits

pub returns-clause-ended : goal.returns-clause-ended
returns-clause-ended g c =
    request-ended c.args.route.now _ c.args.self.now c.self.view_is c.args.done _ _ _ c.requires.rests c.requires.waits
    c.in_ok-settle.ensures.ended c.in_ok-settle.ensures.marks

pub returns-clause-ready : goal.returns-clause-ready
returns-clause-ready g c =
    request-ready c.args.route.now _ c.args.self.now c.self.view_is c.args.done _ _ _ g.W.World g.S.Sitting c.requires.rests

use Rattle.front_z.proofs.Beginning.{begun-reply, begun-work, begun-bad, begun-limited}
use Rattle.std.proofs.Common.{sym}
use Rattle.front_z.proofs.units.begin_request.Goals as goal

pub returns-in-Reply : goal.returns-in-Reply
returns-in-Reply c =
    begun-reply c.args.request.now c.args.route.now c.args.at _ _ _ _ _ _ c.in-Reply.ensures
    (rw (sym c.end_behind.ensures) c.put_plain.ensures)

pub returns-in-Work : goal.returns-in-Work
returns-in-Work c = begun-work c.args.request.now c.args.route.now c.args.at _ _ _ _ c.in-Work.ensures

pub returns-in-Bad : goal.returns-in-Bad
returns-in-Bad c = begun-bad c.args.request.now c.args.route.now c.args.at _ _ _ _ _ c.in-Bad.ensures c.put_bad.ensures

pub returns-in-Limited : goal.returns-in-Limited
returns-in-Limited c =
    begun-limited c.args.request.now c.args.route.now c.args.at _ _ _ _ _ c.in-Limited.ensures c.put_limited.ensures

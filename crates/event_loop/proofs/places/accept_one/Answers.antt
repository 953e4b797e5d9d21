use Rattle.std.proofs.Common.{None, refl}
use Rattle.event_loop.specs.Fronts.{front_view}
use Rattle.event_loop.proofs.ServesLemmas.{left-ended, left-failed, left-not_ready, none-left, serves-new, serves-same}
use Rattle.event_loop.proofs.places.accept_one.Goals as goal

pub returns-in-Connection-clause-keeps : goal.returns-in-Connection-clause-keeps
returns-in-Connection-clause-keeps g c = λ route served here.
    serves-new g.W.World g.S.Sitting g.A.In.EdgeSource g.A.Out.EdgeSink route c.starts_costless.ensures c.new.result c.in-Connection.input c.in-Connection.output
    (front_view g.A.EdgeAccept served c.args.accept.now) (front_view g.A.EdgeAccept served c.accept.new.self) here
    c.new.ensures.conn c.new.ensures.input c.new.ensures.output refl c.in-Connection.ensures.closed c.in-Connection.ensures.out
    c.in-Connection.ensures.fits c.in-Connection.ensures.connection
    (c.new.ensures.stands route) c.new.ensures.ended (c.new.ensures.of route) c.new.ensures.owes

pub returns-in-NotReady-clause-keeps : goal.returns-in-NotReady-clause-keeps
returns-in-NotReady-clause-keeps g c = λ route served here.
    serves-same g.W.World g.S.Sitting g.A.In.EdgeSource g.A.Out.EdgeSink route None
    (front_view g.A.EdgeAccept served c.args.accept.now) (front_view g.A.EdgeAccept served c.accept.new.self) here refl
    (left-not_ready g.row.A-In.Denot g.row.A-Out.Denot (g.A.EdgeAccept.left c.args.accept.now) (g.A.EdgeAccept.left c.accept.new.self) c.in-NotReady.ensures.fits)
    c.in-NotReady.ensures.closed c.in-NotReady.ensures.out

pub returns-in-Ended-clause-keeps : goal.returns-in-Ended-clause-keeps
returns-in-Ended-clause-keeps g c = λ route served here.
    serves-same g.W.World g.S.Sitting g.A.In.EdgeSource g.A.Out.EdgeSink route None
    (front_view g.A.EdgeAccept served c.args.accept.now) (front_view g.A.EdgeAccept served c.accept.new.self) here refl
    (left-ended g.row.A-In.Denot g.row.A-Out.Denot (g.A.EdgeAccept.left c.args.accept.now) (g.A.EdgeAccept.left c.accept.new.self) c.in-Ended.ensures.fits)
    c.in-Ended.ensures.closed c.in-Ended.ensures.out

pub returns-in-Failed-clause-keeps : goal.returns-in-Failed-clause-keeps
returns-in-Failed-clause-keeps g c = λ route served here.
    serves-same g.W.World g.S.Sitting g.A.In.EdgeSource g.A.Out.EdgeSink route None
    (front_view g.A.EdgeAccept served c.args.accept.now) (front_view g.A.EdgeAccept served c.accept.new.self) here refl
    (left-failed g.row.A-In.Denot g.row.A-Out.Denot (g.A.EdgeAccept.left c.args.accept.now) (g.A.EdgeAccept.left c.accept.new.self) c.in-Failed.ensures.fits)
    c.in-Failed.ensures.closed c.in-Failed.ensures.out

pub returns-in-Ended-clause-comes : goal.returns-in-Ended-clause-comes
returns-in-Ended-clause-comes g c =
    none-left g.row.A-In.Denot g.row.A-Out.Denot (g.A.EdgeAccept.left c.args.accept.now) (g.A.EdgeAccept.left c.accept.new.self) c.in-Ended.ensures.fits

pub returns-in-Failed-clause-comes : goal.returns-in-Failed-clause-comes
returns-in-Failed-clause-comes g c = c.in-Failed.ensures.failed refl

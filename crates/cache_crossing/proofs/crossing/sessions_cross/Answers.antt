use denote.Param.{param}
use mir.Syntax.{of_param}
use Rattle.cache_crossing.proofs.Crosses.{session_send, unseen_quiet}
use Rattle.cache_crossing.proofs.crossing.sessions_cross.Goals as goal

pub may_go-requires-send-T : goal.may_go-requires-send-T
may_go-requires-send-T g c κs within =
    let f = session_send (param 0 g.row.W) (param 1 g.row.S) g.W.World g.S.Sitting c.type_bounds.send-S in
    record { owned = f.owned; leaving = λ k x w. unseen_quiet (k (of_param 0)) x w }

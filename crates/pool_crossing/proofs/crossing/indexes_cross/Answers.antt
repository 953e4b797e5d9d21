use denote.Param.{param}
use mir.Syntax.{of_param}
use Rattle.pool_crossing.proofs.Crosses.{indexed_send, unseen_quiet}
use Rattle.pool_crossing.proofs.crossing.indexes_cross.Goals as goal

pub may_go-requires-send-T : goal.may_go-requires-send-T
may_go-requires-send-T g c κs within =
    let f = indexed_send (param 0 g.row.W) (param 1 g.row.S) (param 2 g.row.D) g.W.World g.S.Sitting g.D.Digest c.type_bounds.send-S in
    record { owned = f.owned; leaving = λ k x w. unseen_quiet (k (of_param 0)) x w }

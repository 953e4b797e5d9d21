use denote.Param.{param}
use denote.Param.Send.{sendable}
use Rattle.cache_crossing.proofs.Crosses.{lock_sync}
use Rattle.cache_crossing.proofs.crossing.locks_cross.Goals as goal

pub may_go-requires-send-T : goal.may_go-requires-send-T
may_go-requires-send-T g c κs within =
    let y = lock_sync (param 1 g.row.W) g.W.World in
    let r = c.type_bounds.sync-R in
    search (y, r, sendable) depth 60 fits 20000

use denote.Param.{param}
use mir.Syntax.{of_param}
use Rattle.cache_crossing.proofs.Crosses.{session_send, unseen_quiet}
use Rattle.serve_cached.proofs.serving.serve_over.Goals as goal

pub serve_all-requires-send-B-Session : goal.serve_all-requires-send-B-Session
serve_all-requires-send-B-Session g c κs within =
    let f = session_send (param 1 g.row.W) (param 7 g.row.B-Session) g.W.World g.B.Session.Sitting c.type_bounds.send-B-Session in
    record { owned = f.owned; leaving = λ k x w. unseen_quiet (k (of_param 6)) x w }

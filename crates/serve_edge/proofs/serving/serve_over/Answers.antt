use denote.Param.{param}
use mir.Syntax.{of_param}
use Rattle.test_target.specs.contracts.worlds.TestWorld as test_world
use Rattle.test_target.specs.contracts.worlds.TestWorldWorld.TheImpl as world
use Rattle.serve_edge.proofs.Crosses.{session_send, unseen_quiet}
use Rattle.serve_edge.proofs.serving.serve_over.Goals as goal

pub top_serve-requires-send-B-Session : goal.top_serve-requires-send-B-Session
top_serve-requires-send-B-Session g c κs within =
    let f = session_send test_world.the_row (param 6 g.row.N-Link) world.ghosts g.N.Link.Linked c.type_bounds.send-N-Link in
    record { owned = f.owned; leaving = λ k x w. unseen_quiet (k (of_param 7)) x w }

use denote.Param.{param}
use denote.Param.Send.{sendable}
use Rattle.std.proofs.Common.{ap, arith, length}
use Rattle.std.proofs.lemmas.List.Elements.{length_all_zip}
use Rattle.cache_crossing.proofs.Crosses.{lock_sync}
use Rattle.serve_threads.proofs.Searched.{same-booked}
use Rattle.serve_threads.proofs.Together.{same-workers}
use Rattle.serve_cached.proofs.BeneathLemmas.{booked-beneath, served-beneath}
use Rattle.serve_cached.proofs.serving.serve_all_cached.Goals as goal

pub serve_over-came-requires-send-T : goal.serve_over-came-requires-send-T
serve_over-came-requires-send-T g c κs within =
    let y = lock_sync (param 1 g.row.W) g.W.World in
    let r = c.type_bounds.sync-R in
    search (y, r, sendable) depth 60 fits 20000

pub take_back-requires-clause-room : goal.take_back-requires-clause-room
take_back-requires-clause-room g c =
    let same = length_all_zip _ _ _ c.serve_over-came.ensures.served.each in
    let left = ap length c.in-Ok.ensures.left in
    let long = c.in-Ok.ensures.long in
    let room = c.over_store.ensures.room in
    omega (arith, same, left, long, room)

pub returns : goal.returns
returns g c = record {
  served = served-beneath g.W.World g.A.In.Source g.A.Out.Sink g.A.Accept g.B.Watched c.args.route.now c.args.route.now.pool.max_sessions
      _ _ _ _ _ _ c.in-Ok.ensures.moved c.in-Ok.ensures.left c.take_back.ensures.moved c.serve_over-came.ensures.served;
  booked = booked-beneath g.B.Watched (g.P.Door.counts c.serve_over-came.result.1).booked _ _ _ c.in-Ok.cached.items
      c.serve_over-came.new.cached.items c.in-Ok.ensures.moved c.in-Ok.ensures.left c.take_back.ensures.moved c.serve_over-came.ensures.booked;
}

pub returns-in_default : goal.returns-in_default
returns-in_default g c = record {
  served = same-workers g.W.World g.A.In.Source g.A.Out.Sink g.A.Accept g.B.Watched c.args.route.now c.args.route.now.pool.max_sessions _ _ c.in_default.ensures.err;
  booked = same-booked g.B.Watched _ _ _ c.in_default.ensures.err;
}

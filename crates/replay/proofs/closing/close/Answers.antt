use Rattle.std.proofs.lemmas.Result.{on_ok_weaker}
use Rattle.replay.proofs.ClosingLemmas.{closes_none, closes_some, of_some}
use Rattle.replay.proofs.closing.close.Goals as goal

pub close_client-requires : goal.close_client-requires
close_client-requires g c =
    of_some g.W.World g.B.Session.Sitting c.args.route.now (g.D.Door.counts c.args.door.now).most c.args.place.now c.in-Some.client c.in-Some.is c.requires

pub returns-in-Some : goal.returns-in-Some
returns-in-Some g c =
    on_ok_weaker c.close_client.result
    (closes_some g.W.World g.B.Session.Sitting g.B.Watched.exact c.args.route.now c.args.now c.in-Some.client c.close_client.new.client c.args.place.now
    _ _ c.in-Some.is) c.close_client.ensures

pub returns-in-None : goal.returns-in-None
returns-in-None g c = closes_none g.W.World g.B.Session.Sitting g.B.Watched.exact c.args.route.now c.args.now c.args.place.now _ c.in-None.is

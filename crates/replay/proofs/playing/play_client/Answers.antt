use Rattle.std.proofs.Common.{◌∙◌, refl, sym, subst}
use Rattle.std.proofs.lemmas.Option.{none-some, same_Some}
use Rattle.std.proofs.lemmas.Result.{on_ok_weaker}
use Rattle.front_conn_costs.specs.front_conn.steps.States.{IsConnOf}
use Rattle.replay.specs.Clients.{ClientState, client_or_new}
use Rattle.replay.specs.Trace.{PlaysFor, outside_of}
use Rattle.replay.specs.steps.Playing.{CanTake}
use Rattle.replay.proofs.playing.play_client.Goals as goal

pub play_for-requires : goal.play_for-requires
play_for-requires g c =
    let same = same_Some (client_or_new c.args.place.now) c.in-Some.client (sym c.name_client.ensures ∙ c.in-Some.is) in record {
      its = c.requires.its;
      of = subst (λ (s : ClientState g.row.B-Session.Denot). IsConnOf g.W.World g.B.Session.Sitting c.args.route.now (g.D.Door.counts c.args.door.now).most s.conn) same c.requires.of;
      takes = subst (λ (s : ClientState g.row.B-Session.Denot). CanTake c.args.event.now s) same c.requires.takes;
    }

pub returns-clause-played : goal.returns-clause-played
returns-clause-played g c =
    let same = same_Some (client_or_new c.args.place.now) c.in-Some.client (sym c.name_client.ensures ∙ c.in-Some.is) in
    on_ok_weaker c.play_for.result
    (λ h. record {
      client = c.play_for.new.client;
      is_there = refl;
      plays = subst (λ (s : ClientState g.row.B-Session.Denot). PlaysFor g.W.World g.B.Session.Sitting g.B.Watched.exact c.args.route.now
          c.args.event.now c.args.now s c.play_for.new.client (outside_of g.D.Door g.B.Watched c.args.door.now c.args.backend.now)
          (outside_of g.D.Door g.B.Watched c.play_for.new.door c.play_for.new.backend)) (sym same) h;
    }) c.play_for.ensures.played

pub unreachable-requires : goal.unreachable-requires
unreachable-requires g c = none-some (client_or_new c.args.place.now) (sym c.in-None.is ∙ c.name_client.ensures)

use Rattle.std.proofs.Common.{◌≡◌, ◌≤◌, ◌*◌, take}
use Rattle.script.specs.Events.{most_amount}
use Rattle.replay.specs.Trace.{ArePlayed, moment_behind, outside_of}
use Rattle.replay.specs.steps.Clients.{AreClientsOf}
use Rattle.replay.specs.steps.Costs.{AreCosted}
use Rattle.replay.proofs.playing.play.Given as goal

-- the events so far were played, and the clients stand behind them
abbrev pub invariant-loop-event : goal.invariant-loop-event
invariant-loop-event g l = record {
  moment : l.now ≡ moment_behind (take l.event-index l.events);
  early : l.now ≤ l.event-index * most_amount;
  most : (g.D.Door.counts l.door).most ≡ (g.D.Door.counts l.fn.door).most;
  stand : AreClientsOf g.W.World g.B.Session.Sitting l.route (g.D.Door.counts l.fn.door).most (take l.event-index l.events) l.clients;
  costed : AreCosted g.B.Watched.exact l.route
      (record { clients = l.fn.clients; outside = outside_of g.D.Door g.B.Watched l.fn.door l.fn.backend })
      (record { clients = l.clients; outside = outside_of g.D.Door g.B.Watched l.door l.backend });
  played : ArePlayed g.W.World g.B.Session.Sitting g.B.Watched.exact l.route (take l.event-index l.events) 0
      (record { clients = l.fn.clients; outside = outside_of g.D.Door g.B.Watched l.fn.door l.fn.backend })
      (record { clients = l.clients; outside = outside_of g.D.Door g.B.Watched l.door l.backend });
}

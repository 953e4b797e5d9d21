-- For contracts alone: clients that are closed, one behind another (this project's own)
use Rattle.std.specs.Prelude.{◌≡◌, ℕ, Bool, List, Option, None, Some, IsSome}
use Rattle.z_types.specs.declared.sitting.Sitting as sitting
use Rattle.z_types.specs.declared.world.World as world
use Rattle.route_config.specs.declared.route.Route.{Route}
use Rattle.front_conn_costs.specs.front_conn.steps.Answering.{Outside}
use Rattle.script.specs.declared.event.Event.{Event}
use Rattle.replay.specs.Trace.{ArePlayed, HasRun, Playing, closings, with_no_more}
use Rattle.replay.specs.Clients.{ClientState}
use Rattle.replay.specs.steps.Costs.{AreCosted}
use Rattle.replay.specs.steps.Clients.{AreClientsOf, AreClosedOf, AreEnded}

module _ {W S : Type 0} (w : world.Ghosts W) (t : sitting.Ghosts S W) (exact : Bool) (route : Route)
    (now : ℕ) where
  -- a client's input has ended, and it was run: so its connection has ended
  pub record IsClosedNow (old new : ClientState S) (before behind : Outside S) : Type 0 where
    pub run : HasRun w t exact route now (with_no_more old) new before behind
    pub ended : IsSome new.conn.end

  -- the client of a place, where there is one
  abbrev pub ClosesAt : (old closed : Option (ClientState S)) → (before behind : Outside S) → Type 0
  ClosesAt None closed before behind = (closed ≡ None) × (behind ≡ before)
  ClosesAt (Some client) closed before behind =
      (new : ClientState S) × (closed ≡ Some new) × IsClosedNow client new before behind

  -- all of them were, whatever events they stood behind
  pub record AreAllClosed (old new : Playing S) : Type 0 where
    pub most : new.outside.door.counts.most ≡ old.outside.door.counts.most
    pub ended : AreEnded new.clients
    pub costed : AreCosted exact route old new
    pub fed : (events : List Event)
        → AreClientsOf w t route old.outside.door.counts.most events old.clients
        → AreClosedOf w t route old.outside.door.counts.most events new.clients
    pub played : (events : List Event)
        → AreClientsOf w t route old.outside.door.counts.most events old.clients
        → ArePlayed w t exact route (closings events) now old new

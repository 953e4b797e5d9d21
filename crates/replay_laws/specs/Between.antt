-- What befalls links between requests, by what a replay went through (this project's own): which
-- clients have a request in work at each event
use Rattle.std.specs.Prelude.{◌≡◌, ℕ, ◌+◌, Bool, List, [], ◌∷◌, Option, None, IfSome}
use Rattle.z_types.specs.declared.sitting.Sitting as sitting
use Rattle.z_types.specs.declared.world.World as world
use Rattle.route_config.specs.declared.route.Route.{Route}
use Rattle.replay.specs.front_conn.steps.Answering.{Outside}
use Rattle.script.specs.declared.event.Event.{Event}
use Rattle.script.specs.declared.event.Event.TheVariants.{Gone, Cut}
use Rattle.script.specs.Events.{seconds_of}
use Rattle.replay.specs.Clients.{ClientState, client_at}
use Rattle.replay.specs.Trace.{ArePlayed, IsRunOf, Playing}
use Rattle.replay.specs.declared.reports.Report.{Report}

module _ {S : Type 0} where
  -- no client has a request in work
  abbrev pub IsNoneInWork : List (Option (ClientState S)) → Type 0
  IsNoneInWork clients =
      (place : ℕ) → IfSome (client_at clients place) (λ client. client.conn.in_work ≡ None)

  -- an event that deletes result sets or cuts links comes while no client has one; any other comes
  -- as it likes
  abbrev pub FallsBetween : Event → List (Option (ClientState S)) → Type 0
  FallsBetween (Gone target presents) clients = IsNoneInWork clients
  FallsBetween (Cut target) clients = IsNoneInWork clients
  FallsBetween other clients = Unit {0}

module _ {W S : Type 0} (w : world.Ghosts W) (t : sitting.Ghosts S W) (exact : Bool)
    (route : Route) where
  -- so does each event that was played, at the clients that it found
  abbrev pub FallBetween : (events : List Event) (now : ℕ) (old new : Playing S)
      → ArePlayed w t exact route events now old new → Type 0
  FallBetween [] now old new played = Unit {0}
  FallBetween (event ∷ events) now old new played =
      FallsBetween event old.clients
      × FallBetween events (now + seconds_of event) played.0 new played.2

  -- no cut and no deletion of a replay fell while a request was in work
  abbrev pub DisturbsNobody : (events : List Event) (before behind : Outside S) (report : Report)
      → IsRunOf w t exact route events before behind report → Type 0
  DisturbsNobody events before behind report run =
      FallBetween events 0 (record { clients = run.start; outside = before }) run.mid run.played

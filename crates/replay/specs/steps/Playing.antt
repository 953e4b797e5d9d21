-- For contracts alone: when an event can be played, and what it adds (this project's own)
use Rattle.std.specs.Prelude.{◌≡◌, ℕ, Bool, true, false, List, ◌++◌, Option, IsSome}
use Rattle.z_types.specs.declared.sitting.Sitting as sitting
use Rattle.z_types.specs.declared.world.World as world
use Rattle.route_config.specs.declared.route.Route.{Route}
use Rattle.script.specs.declared.event.Event.{Event}
use Rattle.script.specs.declared.event.Event.TheVariants.{Feed, End}
use Rattle.script.specs.Events.{IsEvent, client_of, may_follow}
use Rattle.replay.specs.Clients.{ClientState}
use Rattle.replay.specs.steps.Clients.{AreClientsOf}

-- octets behind others, where an event feeds them
abbrev pub octets_with : Event → List ℕ → List ℕ
octets_with (Feed client octets) before = before ++ octets
octets_with other before = before

-- whether an input has ended behind an event
abbrev pub ended_with : Event → Bool → Bool
ended_with (End client) before = true
ended_with other before = before

-- an event is of a client
abbrev pub IsOfClient : Event → Type 0
IsOfClient event = IsSome (client_of event)

-- an input that an event feeds has not ended
abbrev pub CanTake : {S : Type 0} → Event → ClientState S → Type 0
CanTake (Feed number octets) client = client.conn.has_ended ≡ false
CanTake other client = Unit {0}

-- clients stand behind events that it may follow
pub record CanPlay {W S : Type 0} (w : world.Ghosts W) (t : sitting.Ghosts S W) (route : Route)
    (most : ℕ) (event : Event) (clients : List (Option (ClientState S))) : Type 0 where
  pub targets : ℕ
  pub is_event : IsEvent targets event
  pub before : List Event
  pub may : may_follow before event ≡ true
  pub stand : AreClientsOf w t route most before clients

-- For contracts alone: where the clients of a replay stand (this project's own)
use Rattle.std.specs.Prelude.{◌≡◌, ℕ, ◌<◌, Bool, true, false, List, [], length, Option, None, Some, IfSome, IsSome}
use Prim.Native.Nat.{suc}
use Rattle.z_types.specs.declared.sitting.Sitting as sitting
use Rattle.z_types.specs.declared.world.World as world
use Rattle.route_config.specs.declared.route.Route.{Route}
use Rattle.front_conn_costs.specs.gateway_rules.Fair.{IsFair}
use Rattle.front_conn_costs.specs.front_conn.steps.Feeding.{without_work}
use Rattle.front_conn_costs.specs.front_conn.steps.States.{IsConnOf, IsStateOf}
use Rattle.script.specs.declared.event.Event.{Event}
use Rattle.script.specs.Events.{fed, has_ended, is_named, most_clients}
use Rattle.replay.specs.Clients.{AreNone, ClientState, client_at}

module _ {S : Type 0} where
  -- no session is out for it
  abbrev pub left : ClientState S → ClientState S
  left client = record client { conn = without_work client.conn }

  -- a place for each client, of whom none is there
  pub record AreNobody (clients : List (Option (ClientState S))) : Type 0 where
    pub all : length clients ≡ most_clients
    pub none : AreNone clients

  -- the connection of each client that is there has ended
  abbrev pub AreEnded : List (Option (ClientState S)) → Type 0
  AreEnded clients =
      (place : ℕ) → IfSome (client_at clients place) (λ client. IsSome client.conn.end)

module _ {W S : Type 0} (w : world.Ghosts W) (t : sitting.Ghosts S W) (route : Route)
    (most : ℕ) where
  -- a client that was fed these octets, and whose input has ended or not: all that its connection
  -- gave was written to it, on a fair route what its session answers them
  pub record IsClientFed (octets : List ℕ) (ended : Bool) (client : ClientState S) : Type 0 where
    pub of : IsConnOf w t route most client.conn
    pub input : client.conn.has_ended ≡ ended
    pub clear : client.conn.out ≡ []
    pub stands : IsFair w route → IsStateOf w route octets client.written client.conn

  -- the client of a number behind events: there is one where they name it, and it was fed what they
  -- feed
  abbrev pub IsClientOf : List Event → ℕ → Option (ClientState S) → Type 0
  IsClientOf events number None = is_named events number ≡ false
  IsClientOf events number (Some client) =
      (is_named events number ≡ true)
      × IsClientFed (fed events number) (has_ended events number) client

  -- a place for each client, that of client 1 first
  pub record AreClientsOf (events : List Event)
      (clients : List (Option (ClientState S))) : Type 0 where
    pub all : length clients ≡ most_clients
    pub each : (place : ℕ) → place < length clients
        → IsClientOf events (suc place) (client_at clients place)

  -- the client of a number whose input has ended, where it is there
  abbrev pub IsClosedOf : List Event → ℕ → Option (ClientState S) → Type 0
  IsClosedOf events number None = is_named events number ≡ false
  IsClosedOf events number (Some client) =
      (is_named events number ≡ true) × IsClientFed (fed events number) true client

  pub record AreClosedOf (events : List Event)
      (clients : List (Option (ClientState S))) : Type 0 where
    pub all : length clients ≡ most_clients
    pub each : (place : ℕ) → place < length clients
        → IsClosedOf events (suc place) (client_at clients place)

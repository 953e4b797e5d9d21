-- For contracts alone: what holds of the connections that are played (this project's own)
use Rattle.std.specs.Prelude.{◌≡◌, ℕ, Bool}
use Rattle.z_types.specs.declared.sitting.Sitting as sitting
use Rattle.z_types.specs.declared.world.World as world
use Rattle.route_config.specs.declared.route.Route.{Route}
use Rattle.front_conn.specs.steps.States.{ConnectionState, IsConnOf}

-- a connection, and whether its input is taken to have ended
pub record ClientState (S : Type 0) : Type 0 where
  pub conn : ConnectionState S
  pub has_ended : Bool

module _ {W S : Type 0} (w : world.Ghosts W) (t : sitting.Ghosts S W) where
  -- a connection of a route, whose input has ended as it is taken to have
  pub record IsClient (route : Route) (most : ℕ) (client : ClientState S) : Type 0 where
    pub of : IsConnOf w t route most client.conn
    pub input : client.conn.has_ended ≡ client.has_ended

  -- a connection of a route stays so
  abbrev pub StaysClient : (old new : ClientState S) → Type 0
  StaysClient old new =
      (route : Route) (most : ℕ) → IsClient route most old → IsClient route most new

  -- both connections are the route's
  pub record ArePlayed (route : Route) (most : ℕ) (client other : ClientState S) : Type 0 where
    pub first : IsClient route most client
    pub second : IsClient route most other

-- The clients of a replay (this project's own): each has a connection, and what was written to it
use Rattle.std.specs.Prelude.{◌≡◌, ℕ, Bool, true, false, List, [], Option, None, Some, slice_get, unwrap_or}
use Rattle.front_conn_costs.specs.front_session.Sessions.{new_session}
use Rattle.front_conn_costs.specs.front_conn.declared.stepped.Stepped.{Stepped}
use Rattle.front_conn_costs.specs.front_conn.declared.stepped.Stepped.TheVariants.{Idle}
use Rattle.front_conn_costs.specs.front_conn.steps.States.{ConnectionState, nothing_yet}

-- a step that did nothing
abbrev pub is_idle : Stepped → Bool
is_idle Idle = true
is_idle stepped = false

-- a client: its connection, and what was written to it
pub record ClientState (S : Type 0) : Type 0 where
  pub conn : ConnectionState S
  pub written : List ℕ

module _ {S : Type 0} where
  -- nothing has happened to it
  abbrev pub new_client : ClientState S
  new_client = record { conn = nothing_yet new_session; written = [] }

  -- the client of a place, or else a new one
  abbrev pub client_or_new : Option (ClientState S) → ClientState S
  client_or_new None = new_client
  client_or_new (Some client) = client

  -- the client of a place, if there is one
  abbrev pub client_at : List (Option (ClientState S)) → ℕ → Option (ClientState S)
  client_at clients place = unwrap_or (slice_get clients place) None

  -- no place has one
  abbrev pub AreNone : List (Option (ClientState S)) → Type 0
  AreNone clients = (place : ℕ) → client_at clients place ≡ None

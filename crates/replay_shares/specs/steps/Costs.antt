-- For contracts alone: what a class has cost, and what its uses need (this project's own)
use Rattle.std.specs.Prelude.{ℕ, ◌==◌, if◌then◌else◌, Bool, false, List, Option, None, Some}
use Rattle.std.specs.List.{sum_by}
use Rattle.z_types.specs.declared.world.World as world
use Rattle.route_config.specs.declared.route.Route.{Route}
use Rattle.replay.specs.front_conn.declared.totals.Total.{Total}
use Rattle.replay.specs.front_conn_costs.steps.Conns.{in_total}
use Rattle.replay.specs.front_conn_costs.steps.Numbers.{Number, dials, searches}
use Rattle.sharing_rules.specs.Needed.{needs_dial, needs_search}
use Rattle.sharing_rules.specs.Uses.{Use}
use Rattle.replay.specs.Clients.{ClientState}

-- ---- what it has cost

module _ (number : Number) (class : ℕ) where
  -- by one sum of a connection, where that is of the class
  abbrev pub cost_in : Total → ℕ
  cost_in total = if total.class == class then in_total number total else 0

  -- on a connection
  abbrev pub cost_on : List Total → ℕ
  cost_on totals = sum_by cost_in totals

  module _ {S : Type 0} where
    -- on that of a client, where there is one
    abbrev pub cost_at : Option (ClientState S) → ℕ
    cost_at None = 0
    cost_at (Some client) = cost_on client.conn.totals

    -- on those of all clients
    abbrev pub cost_of_all : List (Option (ClientState S)) → ℕ
    cost_of_all clients = sum_by cost_at clients

-- ---- what uses need

-- a use of a class needs a dial, or a search, behind others; it needs no set that is gone, and no
-- call that fails
abbrev pub is_needed : {W : Type 0} → world.Ghosts W → Route → Number → ℕ → List Use → Use → Bool
is_needed w route dials class before this = needs_dial route class before this
is_needed w route searches class before this = needs_search w route class before this
is_needed w route other class before this = false

-- For contracts alone: what the clients of a replay cost (this project's own)
use Rattle.std.specs.Prelude.{ℕ, ◌+◌, ◌≤◌, Bool, List, Option, None, Some, IfSome}
use Rattle.std.specs.List.{sum_by}
use Rattle.route_config.specs.declared.route.PoolNumbers.{PoolNumbers}
use Rattle.route_config.specs.declared.route.Route.{Route}
use Rattle.front_conn_costs.specs.steps.Conns.{HasTotals, RestsIfEnded, counted_on, dues_on, met_on, outside_counts, outside_meets}
use Rattle.front_conn_costs.specs.steps.Growth.{RisesAsMuch, RisesEnough}
use Rattle.front_conn_costs.specs.steps.Ledgers.{Cost, IsRaised}
use Rattle.front_conn_costs.specs.steps.Numbers.{Caused, IsTold, Number}
use Rattle.replay.specs.Clients.{ClientState, client_at}
use Rattle.replay.specs.Trace.{Playing}

module _ {S : Type 0} where
  -- what is counted of a client, where there is one, and what its marks need
  abbrev pub counted_at : Number → Option (ClientState S) → ℕ
  counted_at number None = 0
  counted_at number (Some client) = counted_on number client.conn

  abbrev pub met_at : PoolNumbers → Caused → Option (ClientState S) → ℕ
  met_at pool kind None = 0
  met_at pool kind (Some client) = met_on pool kind client.conn

  -- the addresses that were named for it and are not dialled yet
  abbrev pub unused_at : Option (ClientState S) → ℕ
  unused_at None = 0
  unused_at (Some client) = (dues_on client.conn).unused

  -- each address that is named was dialled, or failed, or is not dialled yet
  pub record ArePaid (old new : Playing S) : Type 0 where
    pub cost : Cost
    pub raised : IsRaised cost old.outside.door.counts new.outside.door.counts
        old.outside.backend.counts new.outside.backend.counts
    pub opens : cost.opens + sum_by unused_at old.clients
        ≤ cost.dials + cost.faults + sum_by unused_at new.clients

  -- its sums are kept, and no request is in work where it has ended
  pub record IsKept (route : Route) (client : ClientState S) : Type 0 where
    pub totals : HasTotals route client.conn
    pub rests : RestsIfEnded client.conn

  abbrev pub AreKept : Route → List (Option (ClientState S)) → Type 0
  AreKept route clients = (place : ℕ) → IfSome (client_at clients place) (IsKept route)

  -- what is counted of all clients rose just as it did outside, enough is counted for what their
  -- marks need, and all is paid for
  pub record AreCosted (exact : Bool) (route : Route) (old new : Playing S) : Type 0 where
    pub kept : AreKept route old.clients → AreKept route new.clients
    pub counted : AreKept route old.clients → (number : Number) → IsTold exact number
        → RisesAsMuch (sum_by (counted_at number) old.clients)
        (sum_by (counted_at number) new.clients)
        (outside_counts number old.outside) (outside_counts number new.outside)
    pub met : (kind : Caused)
        → RisesEnough (sum_by (met_at route.pool kind) old.clients)
        (sum_by (met_at route.pool kind) new.clients)
        (outside_meets kind old.outside) (outside_meets kind new.outside)
    pub paid : ArePaid old new

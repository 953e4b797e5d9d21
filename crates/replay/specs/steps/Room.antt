-- For contracts alone: where a new pool has places for the legs of all clients of a replay
-- (this project's own)
use Rattle.std.specs.Prelude.{◌≡◌, ℕ, ◌*◌, ◌≤◌, [], length, Option, None, Some}
use Rattle.route_config.specs.declared.route.Route.{Route}
use Rattle.pool_sets.specs.Plain.{Pool}
use Rattle.package_quiet.specs.leg.Turns.{DoorView}
use Rattle.front_conn_costs.specs.front_conn.steps.Answering.{Outside}
use Rattle.replay.specs.Places.{most_at_once}
use Rattle.replay.specs.declared.reports.Report.{Report}

-- a pool that is told, has no session, and opens this many of a class at most
abbrev pub IsEmptyPool : {S : Type 0} → (most : ℕ) → Option (Pool S) → Type 0
IsEmptyPool most None = ⊥
IsEmptyPool most (Some pool) = (pool.sessions ≡ []) × (pool.max_sessions ≡ most)

-- a door over such a pool, which was never full
pub record IsNewDoor {S : Type 0} (door : DoorView S) : Type 0 where
  pub empty : IsEmptyPool door.counts.most door.pool
  pub unfull : door.counts.fulls ≡ 0

-- a new door that opens as many sessions of a class as the clients that are reported have legs at
-- once, at most, was never full
abbrev pub FindsRoom : {S : Type 0} → Route → Report → (before behind : Outside S) → Type 0
FindsRoom route report before behind =
    IsNewDoor before.door → length report.clients * most_at_once route ≤ before.door.counts.most
    → behind.door.counts.fulls ≡ 0

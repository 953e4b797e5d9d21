-- What befalls the links of a replay and marks no request but where the pool was full
-- (this project's own)
use Rattle.std.specs.Prelude.{◌≡◌, ℕ, ◌*◌, ◌<◌, ◌≤◌, Bool, true, false, List, [], Some, length, nat_lt}
use Rattle.std.specs.List.{AllByRecursion}
use Rattle.z_types.specs.declared.sitting.Sitting as sitting
use Rattle.z_types.specs.declared.world.World as world
use Rattle.gw_outside.specs.Counts.{Counts}
use Rattle.gw_outside.specs.Happened.{AreQuiet, Happened}
use Rattle.route_config.specs.declared.route.PoolNumbers.{PoolNumbers}
use Rattle.route_config.specs.declared.route.Route.{Route}
use Rattle.pool_core.specs.PoolView.{counts_of, new_pool, pool_of}
use Rattle.replay.specs.leg.Turns.{DoorView}
use Rattle.replay.specs.front_conn.steps.Answering.{Outside}
use Rattle.script.specs.declared.event.Event.{Event}
use Rattle.script.specs.declared.event.Event.TheVariants.{Cut, Gone, Slow}
use Rattle.z_client.specs.Counts.{counts_over}
use Rattle.z_client.specs.declared.own.Own.{Own}
use Rattle.replay.specs.front_conn_costs.steps.Growth.{last64}
use Rattle.replay.specs.package_quiet.steps.Bearing.{DialsGoOn, IsBorneBy}
use Rattle.replay.specs.Counts.{HaveCauses}
use Rattle.replay.specs.Places.{most_at_once}
use Rattle.replay.specs.Trace.{IsRunOf}
use Rattle.replay.specs.Uncaused.{AreAllPlain}
use Rattle.replay.specs.Undisturbed.{IsPlainOrFull}
use Rattle.replay.specs.Wires.{AreTold}
use Rattle.replay.specs.declared.reports.ClientReport.{ClientReport}
use Rattle.replay.specs.declared.reports.Report.{Report}
use Rattle.replay_laws.specs.Between.{DisturbsNobody}
use Rattle.replay_laws.specs.Quiet.{IsQuiet}

-- whether a route keeps records, so that Presents may be answered without their targets
abbrev pub keeps_records : Route → Bool
keeps_records route = nat_lt 0 route.cache_records

-- no more Presents find their sets deleted than the pool repeats, replies come within its patience,
-- and no link is cut where sessions keep records
abbrev pub HasBorneNumber : (keeps : Bool) → PoolNumbers → Event → Type 0
HasBorneNumber keeps pool (Gone target presents) = presents ≤ pool.repeats
HasBorneNumber keeps pool (Cut target) = keeps ≡ false
HasBorneNumber keeps pool (Slow target looks) = looks < pool.patience
HasBorneNumber keeps pool event = Unit {0}

-- each request was answered as it asks, or found the pool full
abbrev pub AreAllPlainOrFull : List ClientReport → Type 0
AreAllPlainOrFull clients =
    AllByRecursion (λ client. AllByRecursion IsPlainOrFull client.marks) clients

-- ---- a replay

-- each target of the route tells what it answers, each number of a deletion or a delay is borne, no
-- cut and no deletion falls while a request is in work, none is cut where sessions keep records, no
-- more was made to happen before than is borne, and links that are made go on to be counted
pub record IsBorneRun {W S : Type 0} (w : world.Ghosts W) (t : sitting.Ghosts S W) (exact : Bool)
    (route : Route) (events : List Event) (before behind : Outside S) (report : Report)
    (run : IsRunOf w t exact route events before behind report) : Type 0 where
  pub told : AreTold w route
  pub few : AllByRecursion (HasBorneNumber t.keeps route.pool) events
  pub between : DisturbsNobody w t exact route events before behind report run
  pub start : IsBorneBy w t route.pool before.door.pool before.backend
  pub counted : DialsGoOn behind.backend.counts

-- so each request of it was answered as it asks, or found the pool full
abbrev pub BorneIsPlainOrFull : {W S : Type 0} → world.Ghosts W → sitting.Ghosts S W → Type 0
BorneIsPlainOrFull {W} {S} w t =
    (exact : Bool) (route : Route) (events : List Event) (before behind : Outside S)
    (report : Report) (run : IsRunOf w t exact route events before behind report)
    → exact ≡ true → IsBorneRun w t exact route events before behind report run
    → AreAllPlainOrFull report.clients

-- the door was never full: the count of that, below its last value, did not rise
pub record WasNeverFull {S : Type 0} (before behind : Outside S) : Type 0 where
  pub below : before.door.counts.fulls < last64
  pub still : behind.door.counts.fulls ≡ before.door.counts.fulls

-- then each was answered as it asks
abbrev pub BorneIsPlain : {W S : Type 0} → world.Ghosts W → sitting.Ghosts S W → Type 0
BorneIsPlain {W} {S} w t =
    (exact : Bool) (route : Route) (events : List Event) (before behind : Outside S)
    (report : Report) (run : IsRunOf w t exact route events before behind report)
    → exact ≡ true → IsBorneRun w t exact route events before behind report run
    → HaveCauses route.pool report before behind → WasNeverFull before behind
    → AreAllPlain report.clients

-- ---- over a wire

-- each number of a deletion or a delay is borne, no link is cut where the route keeps records,
-- nothing was made to happen to any target before, and each of the route tells what it answers
pub record MayBeBorne {W : Type 0} (w : world.Ghosts W) (route : Route) (events : List Event)
    (happened : Happened) : Type 0 where
  pub few : AllByRecursion (HasBorneNumber (keeps_records route) route.pool) events
  pub quiet : AreQuiet happened
  pub told : AreTold w route

-- each mark is Plain or Full, and all are Plain where there may be as many sessions of a class as
-- the clients have legs at once, at most
pub record AreBorneMarks (route : Route) (report : Report) : Type 0 where
  pub marks : AreAllPlainOrFull report.clients
  pub places : length report.clients * most_at_once route ≤ route.pool.max_sessions
      → AreAllPlain report.clients

-- a wire whose counts are exact, and whose count of links is below its last value behind the
-- replay, leaves such marks where at each cut and each deletion of the script every client that
-- took a step was run since
abbrev pub IsBorneIf : {W : Type 0} → world.Ghosts W → (exact : Bool) → Route → List Event
    → Happened → (behind : Counts) → Report → Type 0
IsBorneIf w exact route events happened behind report =
    exact ≡ true → MayBeBorne w route events happened → IsQuiet events → DialsGoOn behind
    → AreBorneMarks route report

-- a new pool of these numbers: it has no session, gave none a number, and counted nothing
abbrev pub new_door : {S : Type 0} → PoolNumbers → DoorView S
new_door {S = S} numbers =
    record { pool = Some (pool_of numbers 0 []); counts = counts_of {S = S} (new_pool numbers) }

-- What the replay went through: it began with a new pool of the route's numbers, and with what was
-- made to happen to the wire's targets, and ended with what the wire counted, beside the breaches.
-- It leaves such marks where no cut and no deletion fell while a request was in work.
pub record WentThrough {W S : Type 0} (w : world.Ghosts W) (t : sitting.Ghosts S W) (exact : Bool)
    (route : Route) (events : List Event) (happened : Happened) (counts : Counts)
    (report : Report) : Type 0 where
  pub before : Outside S
  pub behind : Outside S
  pub run : IsRunOf w t exact route events before behind report
  pub door : before.door ≡ new_door route.pool
  pub begins : (target : ℕ) → before.backend.happened.of_target target ≡ happened.of_target target
  pub own : Own
  pub ends : behind.backend.counts ≡ counts_over exact counts own
  pub borne : exact ≡ true → MayBeBorne w route events happened
      → DisturbsNobody w t exact route events before behind report run → DialsGoOn counts
      → AreBorneMarks route report

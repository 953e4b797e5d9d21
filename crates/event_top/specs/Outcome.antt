-- When each status of the event front comes, with what is printed (this project's own)
use Rattle.std.specs.Prelude.{◌≡◌, ◌⊎◌, ℕ, ◌+◌, ◌≤◌, ◌<◌, List, length, Option, None, Some}
use Rattle.std.specs.List.{sum_by}
use Rattle.z_types.specs.declared.world.World as world
use Rattle.route_config.specs.declared.route.PoolNumbers.{PoolNumbers}
use Rattle.route_config.specs.declared.route.Route.{Route}
use Rattle.route_text.specs.declared.fault.RouteFault.{RouteFault}
use Rattle.gw_outside.specs.Counts.{Counts}
use Rattle.gw_outside.specs.declared.watched.Watched as watched
use Rattle.pool_sets.specs.Counts.{DoorCounts}
use Rattle.event_outside.specs.declared.accepts.EdgeAccept as accept
use Rattle.event_outside.specs.declared.pollers.Poller as poller
use Rattle.event_outside.specs.declared.sinks.EdgeSink as to
use Rattle.event_outside.specs.declared.sources.EdgeSource as from
use Rattle.gateway_config.specs.ConfigRead.{IsUnread}
use Rattle.gateway_config.specs.Configs.{IsRefusedConfig, IsTaken}
use Rattle.gateway_config.specs.Lines.{FailedWithin, Received, ReceivedNothing, Says, config_line, fault_line, usage_line}
use Rattle.gateway_config.specs.Outside.{FileReads, SinkWrites}
use Rattle.gateway_config.specs.declared.status.Status.{Status}
use Rattle.gateway_config.specs.declared.status.Status.TheVariants as status
use Rattle.event_loop.specs.Fronts.{HasServedTo, IsFrontCaused, front_view, undialled_by}
use Rattle.event_loop.specs.event_front.conn_served.declared.served.Served.{Served}
use Rattle.event_loop.specs.event_front.conn_served.front_conn_costs.steps.Conns.{marks_of}
use Rattle.event_loop.specs.event_front.conn_served.front_conn_costs.steps.Growth.{last64}
use Rattle.event_loop.specs.event_front.conn_served.front_conn_costs.steps.Numbers.{full}
use Rattle.event_loop.specs.declared.fronts.EventFront.{EventFront}
use Rattle.event_loop.specs.declared.fronted.Fronted.{Fronted}
use Rattle.event_loop.specs.declared.fronted.Fronted.TheVariants as fronted
use Rattle.event_top.specs.Lines.{accept_line, poll_line, served_line}
use Rattle.event_top.specs.Words.{config_of, events_of}
use Rattle.event_top.specs.declared.words.EventsAsked.{EventsAsked}

-- how many connections were served is printed, or a front of it where the sink failed, or nothing
-- for want of memory
abbrev pub IsServedTold : ℕ → SinkWrites → Status → Type 0
IsServedTold number writes status.Ok = Received writes (served_line number)
IsServedTold number writes status.WriteFault = FailedWithin writes (served_line number)
IsServedTold number writes status.Memory = ReceivedNothing writes
IsServedTold number writes other = ⊥

-- What is printed at each status, whatever becomes of the front: how many connections were served,
-- or why none were, or none any more
abbrev pub IsPrinted : SinkWrites → Status → Type 0
IsPrinted writes status.Ok = (number : ℕ) × Received writes (served_line number)
IsPrinted writes status.WriteFault = (number : ℕ) × FailedWithin writes (served_line number)
IsPrinted writes status.AcceptFault = Says writes accept_line
IsPrinted writes status.PollFault = Says writes poll_line
IsPrinted writes status.Words = Says writes usage_line
IsPrinted writes status.Config = (fault : RouteFault) × Says writes (config_line fault)
IsPrinted writes status.ReadFault = (name : List ℕ) × Says writes (fault_line name)
IsPrinted writes status.Memory = ReceivedNothing writes
IsPrinted writes other = ⊥

-- a new pool has counted nothing
abbrev pub no_door_counts : PoolNumbers → DoorCounts
no_door_counts pool = record { most = pool.max_sessions; fulls = 0; opens = 0; booked = 0 }

-- ---- what marks of a full pool come of

-- how many of their marks are Full
abbrev pub fulls_in : List Served → ℕ
fulls_in served = sum_by (λ (one : Served). marks_of full one.marks) served

-- the links that were made, the calls that failed, and the addresses that connections without
-- memory may have left undialled
abbrev pub dialled_by : List Served → Counts → ℕ
dialled_by served counts = counts.dials + counts.faults + undialled_by served

-- Where a client was told that the pool is full, as many sessions had been dialled as there may be
-- of a class, or their links had failed; those that were left undialled for want of memory are
-- among them. The counts stand below their last value.
abbrev pub IsFullCaused : (most : ℕ) → (old new : List Served) → (before behind : Counts) → Type 0
IsFullCaused most old new before behind =
    behind.dials < last64 → behind.faults < last64 → fulls_in old < fulls_in new
    → dialled_by old before + most ≤ dialled_by new behind

-- so it is where no connection was given up
abbrev pub AreFullsCaused : Fronted → (most : ℕ) → (old new : List Served)
    → (before behind : Counts) → Type 0
AreFullsCaused fronted.Ended most old new before behind = IsFullCaused most old new before behind
AreFullsCaused fronted.AcceptFailed most old new before behind =
    IsFullCaused most old new before behind
AreFullsCaused fronted.PollFailed most old new before behind = Unit {0}
AreFullsCaused fronted.Memory most old new before behind = Unit {0}

module _ {W A P B C I K : Type 0} (w : world.Ghosts W) (i : from.Ghosts I) (k : to.Ghosts K)
    (a : accept.Ghosts A I K) (p : poller.Ghosts P) (b : watched.Ghosts B)
  where
    -- The front served by a route, over a new pool, and ended so, with its cause. The marks of its
    -- connections have theirs, and what they cost is paid for.
    pub record FrontServed (route : Route) (old new : EventFront A P B C)
        (how : Fronted) : Type 0 where
      pub counted : DoorCounts
      pub served : HasServedTo w i k route how (front_view a old.served old.accept)
          (front_view a new.served new.accept)
          (record { door = no_door_counts route.pool; backend = b.counts old.backend })
          (record { door = counted; backend = b.counts new.backend })
      pub fulls : AreFullsCaused how route.pool.max_sessions old.served new.served
          (b.counts old.backend) (b.counts new.backend)
      pub cause : IsFrontCaused how (a.faults old.accept) (a.faults new.accept)
          (p.faults old.poller) (p.faults new.poller)

    -- no connection is left, and how many were served is what is printed, whole or not
    pub record HasEnded (route : Route) (old new : EventFront A P B C)
        (Printed : List ℕ → Type 0) : Type 0 where
      pub served : FrontServed route old new fronted.Ended
      pub number : ℕ
      pub taken : length new.served ≡ length old.served + number
      pub printed : Printed (served_line number)

    -- the front served by a route, and what is printed says how it ended
    abbrev pub RouteServed : Route → SinkWrites → (old new : EventFront A P B C) → Status → Type 0
    RouteServed route writes old new status.Ok = HasEnded route old new (Received writes)
    RouteServed route writes old new status.WriteFault =
        HasEnded route old new (FailedWithin writes)
    RouteServed route writes old new status.AcceptFault =
        FrontServed route old new fronted.AcceptFailed × Says writes accept_line
    RouteServed route writes old new status.PollFault =
        FrontServed route old new fronted.PollFailed × Says writes poll_line
    RouteServed route writes old new status.Memory =
        ReceivedNothing writes × ((how : Fronted) × FrontServed route old new how)
    RouteServed route writes old new other = ⊥

    -- a configuration was taken, and the front served by its route
    abbrev pub TakenAndServed : List ℕ → FileReads → SinkWrites → (old new : EventFront A P B C)
        → Status → Type 0
    TakenAndServed config reads writes old new ended =
        (route : Route) × IsTaken config reads route × RouteServed route writes old new ended

    -- Config exactly where the configuration is refused, ReadFault only where it could not be read,
    -- each before a connection is accepted
    abbrev pub EventsDone : List ℕ → FileReads → SinkWrites → (old new : EventFront A P B C)
        → Status → Type 0
    EventsDone config reads writes old new status.Config =
        IsRefusedConfig config reads writes × (new ≡ old)
    EventsDone config reads writes old new status.ReadFault =
        IsUnread config reads writes × (new ≡ old)
    EventsDone config reads writes old new status.Memory =
        (ReceivedNothing writes × (new ≡ old))
        ⊎ TakenAndServed config reads writes old new status.Memory
    EventsDone config reads writes old new ended = TakenAndServed config reads writes old new ended

    -- Words exactly where the words are not those of `events`
    abbrev pub NamedDone : Option (List ℕ) → FileReads → SinkWrites
        → (old new : EventFront A P B C) → Status → Type 0
    NamedDone (Some config) reads writes old new ended =
        EventsDone config reads writes old new ended
    NamedDone None reads writes old new ended =
        (ended ≡ status.Words) × Says writes usage_line × (new ≡ old)

    abbrev pub CommandDone : Option EventsAsked → Option (List ℕ) → FileReads → SinkWrites
        → (old new : EventFront A P B C) → Status → Type 0
    CommandDone (Some asked) config reads writes old new ended =
        NamedDone config reads writes old new ended
    CommandDone None config reads writes old new ended =
        (ended ≡ status.Words) × Says writes usage_line × (new ≡ old)

    -- what these words did
    abbrev pub IsDone : List (List ℕ) → FileReads → SinkWrites → (old new : EventFront A P B C)
        → Status → Type 0
    IsDone words reads writes old new ended =
        CommandDone (events_of words) (config_of words) reads writes old new ended

-- When each status of serving comes, with what is printed (this project's own). At every status the
-- workers are the same, in the same order.
use Rattle.std.specs.Prelude.{◌≡◌, ◌⊎◌, ℕ, ◌+◌, List, length, Option, None, Some}
use Rattle.z_types.specs.declared.world.World as world
use Rattle.route_config.specs.declared.route.Route.{Route}
use Rattle.route_text.specs.declared.fault.RouteFault.{RouteFault}
use Rattle.gw_outside.specs.declared.accepts.Accept as accept
use Rattle.gw_outside.specs.declared.sinks.Sink as to
use Rattle.gw_outside.specs.declared.sources.Source as from
use Rattle.gw_outside.specs.declared.watched.Watched as watched
use Rattle.gateway_config.specs.ConfigRead.{IsUnread}
use Rattle.gateway_config.specs.Configs.{IsTaken, IsRefusedConfig}
use Rattle.gateway_config.specs.Lines.{Received, ReceivedNothing, FailedWithin, Says, config_line, fault_line, usage_line}
use Rattle.gateway_config.specs.Outside.{FileReads, SinkWrites}
use Rattle.gateway_config.specs.declared.status.Status.{Status}
use Rattle.gateway_config.specs.declared.status.Status.TheVariants as status
use Rattle.serve_cached.specs.serve_threads.serve.declared.working.Worked.{Worked}
use Rattle.serve_cached.specs.serve_threads.serve.declared.working.Worked.TheVariants.{Ended, Failed}
use Rattle.serve_cached.specs.serve_threads.serve.declared.working.Worker.{Worker}
use Rattle.serve_cached.specs.serve_threads.Serving.{HaveServed}
use Rattle.serve_top.specs.Lines.{accept_line, served_count, served_line}
use Rattle.serve_top.specs.Words.{serve_of}

-- how many connections were served is printed, or a front of it where the sink failed, or nothing
-- for want of memory
abbrev pub IsServedTold : ℕ → SinkWrites → Status → Type 0
IsServedTold number writes status.Ok = Received writes (served_line number)
IsServedTold number writes status.WriteFault = FailedWithin writes (served_line number)
IsServedTold number writes status.Memory = ReceivedNothing writes
IsServedTold number writes other = ⊥

-- What is printed at each status, whatever becomes of the workers: how many connections were
-- served, or why none were, or none any more
abbrev pub IsPrinted : SinkWrites → Status → Type 0
IsPrinted writes status.Ok = (number : ℕ) × Received writes (served_line number)
IsPrinted writes status.WriteFault = (number : ℕ) × FailedWithin writes (served_line number)
IsPrinted writes status.AcceptFault = Says writes accept_line
IsPrinted writes status.Words = Says writes usage_line
IsPrinted writes status.Config = (fault : RouteFault) × Says writes (config_line fault)
IsPrinted writes status.ReadFault = (name : List ℕ) × Says writes (fault_line name)
IsPrinted writes status.Memory = ReceivedNothing writes
IsPrinted writes other = ⊥

module _ {W A B C I K : Type 0} (w : world.Ghosts W) (i : from.Ghosts I) (k : to.Ghosts K)
    (a : accept.Ghosts A I K) (b : watched.Ghosts B)
  where
    -- so many connections more are listed
    abbrev pub HaveTaken : ℕ → List (Worker B A C) → List (Worker B A C) → Type 0
    HaveTaken number old new = served_count new ≡ served_count old + number

    -- all workers ended, and how many connections they served is what is printed, whole or not
    pub record HaveEnded (route : Route) (old new : List (Worker B A C))
        (Printed : List ℕ → Type 0) : Type 0 where
      pub served : HaveServed w i k a b route route.pool.max_sessions old new Ended
      pub number : ℕ
      pub taken : HaveTaken number old new
      pub printed : Printed (served_line number)

    -- the workers served by a route, and what is printed says how they ended
    abbrev pub RouteServed : Route → SinkWrites → List (Worker B A C) → List (Worker B A C)
        → Status → Type 0
    RouteServed route writes old new status.Ok = HaveEnded route old new (Received writes)
    RouteServed route writes old new status.WriteFault =
        HaveEnded route old new (FailedWithin writes)
    RouteServed route writes old new status.AcceptFault =
        HaveServed w i k a b route route.pool.max_sessions old new Failed × Says writes accept_line
    RouteServed route writes old new status.Memory =
        ReceivedNothing writes
        × ((worked : Worked) × HaveServed w i k a b route route.pool.max_sessions old new worked)
    RouteServed route writes old new other = ⊥

    -- a configuration was taken, and the workers served by its route
    abbrev pub TakenAndServed : List ℕ → FileReads → SinkWrites → List (Worker B A C)
        → List (Worker B A C) → Status → Type 0
    TakenAndServed config reads writes old new ended =
        (route : Route) × IsTaken config reads route × RouteServed route writes old new ended

    -- Config exactly where the configuration is refused, ReadFault only where it could not be read,
    -- each before a worker begins
    abbrev pub ServeDone : List ℕ → FileReads → SinkWrites → List (Worker B A C)
        → List (Worker B A C) → Status → Type 0
    ServeDone config reads writes old new status.Config =
        IsRefusedConfig config reads writes × (new ≡ old)
    ServeDone config reads writes old new status.ReadFault =
        IsUnread config reads writes × (new ≡ old)
    ServeDone config reads writes old new status.Memory =
        (ReceivedNothing writes × (new ≡ old))
        ⊎ TakenAndServed config reads writes old new status.Memory
    ServeDone config reads writes old new ended = TakenAndServed config reads writes old new ended

    -- Words exactly where the words are not those of `serve` with as many workers as there are
    abbrev pub CommandDone : Option (List ℕ) → FileReads → SinkWrites → List (Worker B A C)
        → List (Worker B A C) → Status → Type 0
    CommandDone (Some config) reads writes old new ended =
        ServeDone config reads writes old new ended
    CommandDone None reads writes old new ended =
        (ended ≡ status.Words) × Says writes usage_line × (new ≡ old)

    -- what these words did
    abbrev pub IsDone : List (List ℕ) → FileReads → SinkWrites → List (Worker B A C)
        → List (Worker B A C) → Status → Type 0
    IsDone words reads writes old new ended =
        CommandDone (serve_of (length old) words) reads writes old new ended

-- Scripts whose cuts and deletions disturb no request, by the script alone (this project's own)
use Rattle.std.specs.Prelude.{◌≡◌, ℕ, ◌==◌, ◌&&◌, not, Bool, true, false, List, [], ◌∷◌, filter}
use Rattle.z_types.specs.declared.sitting.Sitting as sitting
use Rattle.z_types.specs.declared.world.World as world
use Rattle.route_config.specs.declared.route.Route.{Route}
use Rattle.replay.specs.front_conn.steps.Answering.{Outside}
use Rattle.script.specs.declared.event.Event.{Event}
use Rattle.script.specs.declared.event.Event.TheVariants.{Step, Run, Gone, Cut}
use Rattle.replay.specs.Trace.{IsRunOf}
use Rattle.replay.specs.declared.reports.Report.{Report}
use Rattle.replay_laws.specs.Between.{DisturbsNobody}

-- the clients that took a step and no run since, behind one event more
abbrev pub stepped_behind : List ℕ → Event → List ℕ
stepped_behind clients (Step client) = client ∷ clients
stepped_behind clients (Run client) = filter (λ other. not (other == client)) clients
stepped_behind clients other = clients

abbrev pub is_nobody : List ℕ → Bool
is_nobody [] = true
is_nobody (client ∷ clients) = false

-- links are cut and sets deleted where there is none
abbrev pub may_come : List ℕ → Event → Bool
may_come clients (Gone target presents) = is_nobody clients
may_come clients (Cut target) = is_nobody clients
may_come clients other = true

abbrev pub may_all_come : (stepped : List ℕ) → List Event → Bool
may_all_come stepped [] = true
may_all_come stepped (event ∷ events) =
    may_come stepped event && may_all_come (stepped_behind stepped event) events

-- at each cut and each deletion every client that took a step was run since
abbrev pub IsQuiet : List Event → Type 0
IsQuiet events = may_all_come [] events ≡ true

-- whatever the targets, the pool and the links do, a replay of such a script disturbs nobody
abbrev pub QuietDisturbsNobody : {W S : Type 0} → world.Ghosts W → sitting.Ghosts S W → Type 0
QuietDisturbsNobody {W} {S} w t =
    (exact : Bool) (route : Route) (events : List Event) (before behind : Outside S)
    (report : Report) (run : IsRunOf w t exact route events before behind report)
    → IsQuiet events → DisturbsNobody w t exact route events before behind report run

-- When each status comes, and what is printed with it (this project's own)
use Rattle.std.specs.Prelude.{◌≡◌, ◌⊎◌, ℕ, ◌<◌, ◌≤◌, List, Option, None, Some, Ok, Err, IfSome, length}
use Rattle.z_types.specs.declared.world.World as world
use Rattle.route_config.specs.declared.route.Route.{Route}
use Rattle.route_config.specs.Lookup.{target_names}
use Rattle.script.specs.declared.event.Event.{Event}
use Rattle.script.specs.declared.faults.ScriptFault.TheVariants.{Line, TooMany}
use Rattle.script.specs.Script.{script_of}
use Rattle.replay_shares.specs.replay.declared.reports.Report.{Report}
use Rattle.replay_shares.specs.replay.Page.{page}
use Rattle.gateway_config.specs.ConfigRead.{IsUnread}
use Rattle.gateway_config.specs.Configs.{IsTaken, IsRefusedConfig}
use Rattle.gateway_config.specs.Lines.{Received, ReceivedNothing, FailedWithin, Says, usage_line}
use Rattle.gateway_config.specs.Outside.{FileReads, SinkWrites}
use Rattle.gateway_config.specs.declared.status.Status.{Status}
use Rattle.gateway_config.specs.declared.status.Status.TheVariants as status
use Rattle.gateway_top.specs.Command.{check_of, replay_of, load_of}
use Rattle.gateway_top.specs.Lines.{check_line, real_target_line, script_line}
use Rattle.gateway_top.specs.Load.{LoadDone}
use Rattle.gateway_top.specs.Targets.{first_real}
use Rattle.replay_top.specs.Outside.{WireCalls}
use Rattle.replay_top.specs.Reported.{IsPlayedReport}

-- the page of one report of the events was printed, and nothing else
pub record HasPrinted {W S : Type 0} (w : world.Ghosts W) (calls : WireCalls W S) (route : Route)
    (events : List Event) (writes : SinkWrites) : Type 0 where
  pub report : Report
  pub played : IsPlayedReport w calls route events report
  pub printed : Received writes (page report)

-- a front of the page of one report of the events was printed, and nothing else, since a write
-- failed
pub record HasPrintedPart {W S : Type 0} (w : world.Ghosts W) (calls : WireCalls W S)
    (route : Route) (events : List Event) (writes : SinkWrites) : Type 0 where
  pub report : Report
  pub played : IsPlayedReport w calls route events report
  pub printed : FailedWithin writes (page report)

-- the events were played: their page is printed, or a front of it where the sink failed, or nothing
-- for want of memory
abbrev pub Played : {W S : Type 0} → world.Ghosts W → WireCalls W S → Route → List Event
    → SinkWrites → Status → Type 0
Played w calls route events writes status.Ok = HasPrinted w calls route events writes
Played w calls route events writes status.WriteFault = HasPrintedPart w calls route events writes
Played w calls route events writes status.Memory = ReceivedNothing writes
Played w calls route events writes other = ⊥

-- the most octets of a script
abbrev pub script_limit : ℕ
script_limit = 16777216

-- octets are a script of these events, for the targets of a route
abbrev pub IsPlayable : Route → List Event → List ℕ → Type 0
IsPlayable route events text =
    (length text ≤ script_limit) × (script_of (target_names route) text ≡ Ok events)

-- octets are no script, because of this line
abbrev pub IsRefusedAt : Route → ℕ → List ℕ → Type 0
IsRefusedAt route number text =
    (script_of (target_names route) text ≡ Err (Line number))
    ⊎ (script_of (target_names route) text ≡ Err (TooMany number))

-- octets are no script, because of this line, or of line 0 where there are too many octets
abbrev pub IsNoScript : Route → ℕ → List ℕ → Type 0
IsNoScript route number text =
    ((script_limit < length text) × (number ≡ 0))
    ⊎ ((length text ≤ script_limit) × IsRefusedAt route number text)

-- a script of these octets, where they are told, was played
abbrev pub EventsPlayed : {W S : Type 0} → world.Ghosts W → WireCalls W S → Route → Option (List ℕ)
    → SinkWrites → Status → Type 0
EventsPlayed w calls route contents writes status =
    (events : List Event) × IfSome contents (IsPlayable route events)
    × Played w calls route events writes status

-- a script of these octets, where they are told, was played; or it is refused, at the line that is
-- printed
abbrev pub ScriptPlayed : {W S : Type 0} → world.Ghosts W → WireCalls W S → Route → Option (List ℕ)
    → SinkWrites → Status → Type 0
ScriptPlayed w calls route contents writes status.Ok =
    EventsPlayed w calls route contents writes status.Ok
ScriptPlayed w calls route contents writes status.WriteFault =
    EventsPlayed w calls route contents writes status.WriteFault
ScriptPlayed w calls route contents writes status.Script =
    (number : ℕ) × IfSome contents (IsNoScript route number) × Says writes (script_line number)
ScriptPlayed w calls route contents writes status.Memory = ReceivedNothing writes
ScriptPlayed w calls route contents writes other = ⊥

-- the script of a name was played, or could not be read
abbrev pub ScriptDone : {W S : Type 0} → world.Ghosts W → WireCalls W S → Route → List ℕ → FileReads
    → SinkWrites → Status → Type 0
ScriptDone w calls route script reads writes status.ReadFault = IsUnread script reads writes
ScriptDone w calls route script reads writes other =
    ScriptPlayed w calls route (reads.contents script) writes other

-- a route with test targets alone is played with the script; another is refused by its first other
-- target
abbrev pub RoutePlayed : {W S : Type 0} → world.Ghosts W → WireCalls W S → Option (List ℕ)
    → Route → List ℕ → FileReads → SinkWrites → Status → Type 0
RoutePlayed w calls (Some name) route script reads writes ended =
    (ended ≡ status.RealTarget) × Says writes (real_target_line name)
RoutePlayed w calls None route script reads writes ended =
    ScriptDone w calls route script reads writes ended

-- a configuration was taken, and its route played
abbrev pub TakenAndPlayed : {W S : Type 0} → world.Ghosts W → WireCalls W S → List ℕ → List ℕ
    → FileReads → SinkWrites → Status → Type 0
TakenAndPlayed w calls config script reads writes ended =
    (route : Route) × IsTaken config reads route
    × RoutePlayed w calls (first_real route) route script reads writes ended

-- Config exactly where the configuration is refused; and else its route and the script decide
abbrev pub ReplayDone : {W S : Type 0} → world.Ghosts W → WireCalls W S → List ℕ → List ℕ
    → FileReads → SinkWrites → Status → Type 0
ReplayDone w calls config script reads writes status.Config = IsRefusedConfig config reads writes
ReplayDone w calls config script reads writes status.Memory = ReceivedNothing writes
ReplayDone w calls config script reads writes status.ReadFault =
    IsUnread config reads writes
    ⊎ TakenAndPlayed w calls config script reads writes status.ReadFault
ReplayDone w calls config script reads writes ended =
    TakenAndPlayed w calls config script reads writes ended

-- a configuration was checked: it is good, or refused, or could not be read
abbrev pub CheckDone : List ℕ → FileReads → SinkWrites → Status → Type 0
CheckDone config reads writes status.Ok =
    (route : Route) × IsTaken config reads route × Received writes (check_line route)
CheckDone config reads writes status.WriteFault =
    (route : Route) × IsTaken config reads route × FailedWithin writes (check_line route)
CheckDone config reads writes status.Config = IsRefusedConfig config reads writes
CheckDone config reads writes status.ReadFault = IsUnread config reads writes
CheckDone config reads writes status.Memory = ReceivedNothing writes
CheckDone config reads writes other = ⊥

-- Words exactly where the words are no command
abbrev pub CommandDone : {W S : Type 0} → world.Ghosts W → WireCalls W S → Option (List ℕ)
    → Option (List ℕ × List ℕ) → Option ℕ → FileReads → SinkWrites → Status → Type 0
CommandDone w calls (Some config) replayed loaded reads writes ended =
    CheckDone config reads writes ended
CommandDone w calls None (Some (config, script)) loaded reads writes ended =
    ReplayDone w calls config script reads writes ended
CommandDone w calls None None (Some clients) reads writes ended =
    LoadDone w calls clients writes ended
CommandDone w calls None None None reads writes ended =
    (ended ≡ status.Words) × Says writes usage_line

-- what these words did
abbrev pub IsDone : {W S : Type 0} → world.Ghosts W → WireCalls W S → List (List ℕ) → FileReads
    → SinkWrites → Status → Type 0
IsDone w calls words reads writes ended =
    CommandDone w calls (check_of words) (replay_of words) (load_of words) reads writes ended

-- a script is refused at a line, which is printed, or no memory could be had
abbrev pub IsRefusal : ℕ → SinkWrites → Status → Type 0
IsRefusal number writes status.Script = Says writes (script_line number)
IsRefusal number writes status.Memory = ReceivedNothing writes
IsRefusal number writes other = ⊥

-- a route is refused for a target, whose name is printed, or no memory could be had
abbrev pub IsTargetRefusal : List ℕ → SinkWrites → Status → Type 0
IsTargetRefusal name writes status.RealTarget = Says writes (real_target_line name)
IsTargetRefusal name writes status.Memory = ReceivedNothing writes
IsTargetRefusal name writes other = ⊥

-- a text was printed, or a front of it where the sink failed, or nothing for want of memory
abbrev pub IsTextPrinted : List ℕ → SinkWrites → Status → Type 0
IsTextPrinted text writes status.Ok = Received writes text
IsTextPrinted text writes status.WriteFault = FailedWithin writes text
IsTextPrinted text writes status.Memory = ReceivedNothing writes
IsTextPrinted text writes other = ⊥

-- nothing was received for want of memory; or this holds
abbrev pub IsMemoryOr : Status → SinkWrites → Type 0 → Type 0
IsMemoryOr status.Memory writes fact = ReceivedNothing writes
IsMemoryOr other writes fact = fact

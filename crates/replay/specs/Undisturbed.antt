-- Where nothing befalls the links of a replay (this project's own): no call fails, no set is gone,
-- and each request is answered as it asks or finds the pool full
use Rattle.std.specs.Prelude.{◌≡◌, ◌*◌, ◌<◌, ◌≤◌, Bool, true, List, length}
use Rattle.std.specs.List.{AllByRecursion}
use Rattle.z_types.specs.declared.marks.Mark.{Mark}
use Rattle.z_types.specs.declared.marks.Mark.TheVariants.{Plain, Full}
use Rattle.z_types.specs.declared.world.World as world
use Rattle.gw_outside.specs.Counts.{Counts, no_counts}
use Rattle.gw_outside.specs.Happened.{Happened, AreQuiet}
use Rattle.route_config.specs.declared.route.Route.{Route}
use Rattle.script.specs.declared.event.Event.{Event}
use Rattle.script.specs.declared.event.Event.TheVariants.{Gone, Cut, Slow}
use Rattle.front_conn_costs.specs.steps.Numbers.{dials, faults, gones}
use Rattle.replay.specs.Counts.{in_classes}
use Rattle.replay.specs.Places.{most_at_once}
use Rattle.replay.specs.Uncaused.{AreAllPlain}
use Rattle.replay.specs.Wires.{AreTold}
use Rattle.replay.specs.declared.reports.Report.{Report}

-- an event that befalls no link: not a deletion of sets, a cut or a delay
abbrev pub BefallsNothing : Event → Type 0
BefallsNothing (Gone target presents) = ⊥
BefallsNothing (Cut target) = ⊥
BefallsNothing (Slow target looks) = ⊥
BefallsNothing event = Unit {0}

-- no event befalls a link, nothing was made to happen to any before, nothing was counted, and each
-- target of the route tells what it answers
pub record IsUndisturbed {W : Type 0} (w : world.Ghosts W) (route : Route) (events : List Event)
    (counts : Counts) (happened : Happened)
    : Type 0 where
  pub nothing : AllByRecursion BefallsNothing events
  pub quiet : AreQuiet happened
  pub uncounted : counts ≡ no_counts
  pub told : AreTold w route

-- a request was answered as it asks, or it found the pool full
abbrev pub IsPlainOrFull : Mark → Type 0
IsPlainOrFull Plain = Unit {0}
IsPlainOrFull (Full sessions) = Unit {0}
IsPlainOrFull mark = ⊥

-- no call failed, no set was gone, and each mark is Plain or Full. All are Plain where fewer links
-- were made than there may be sessions of a class; or where there may be as many as the clients
-- have legs at once, at most
pub record IsUntroubled (route : Route) (report : Report) : Type 0 where
  pub unfailing : in_classes faults report.classes ≡ 0
  pub none_gone : in_classes gones report.classes ≡ 0
  pub marks : AllByRecursion (λ client. AllByRecursion IsPlainOrFull client.marks) report.clients
  pub few_links : in_classes dials report.classes < route.pool.max_sessions
      → AreAllPlain report.clients
  pub places : length report.clients * most_at_once route ≤ route.pool.max_sessions
      → AreAllPlain report.clients

-- a wire whose counts are exact leaves a report untroubled where it was played undisturbed
abbrev pub IsUntroubledIf : {W : Type 0} → world.Ghosts W → (exact : Bool) → Route → List Event
    → Counts → Happened → Report → Type 0
IsUntroubledIf w exact route events counts happened report =
    exact ≡ true → IsUndisturbed w route events counts happened → IsUntroubled route report

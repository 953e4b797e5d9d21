-- What sharing makes of an orderly script (this project's own): no request is marked, and each
-- class costs what the uses of it need
use Rattle.std.specs.Prelude.{◌≡◌, ℕ, Bool, true, List, map, length}
use Rattle.std.specs.List.{range_with_len}
use Rattle.z_types.specs.Bounds.{within64}
use Rattle.z_types.specs.declared.world.World as world
use Rattle.gw_outside.specs.Counts.{Counts}
use Rattle.gw_outside.specs.Happened.{Happened, IsQuietWire}
use Rattle.route_config.specs.declared.route.Route.{Route}
use Rattle.replay.specs.gateway_rules.Fair.{IsFair}
use Rattle.script.specs.declared.event.Event.{Event}
use Rattle.sharing_rules.specs.Needed.{dials_needed, needed}
use Rattle.sharing_rules.specs.Uses.{Use, uses_of}
use Rattle.replay.specs.Uncaused.{AreAllPlain}
use Rattle.replay.specs.declared.reports.Report.{Report}
use Rattle.replay_shares.specs.Orderly.{IsOrderly, ClientRun, dated_works}

-- the places of the classes
abbrev pub class_places : Route → List ℕ
class_places route = range_with_len 0 (length route.classes)

-- the searches and the dials that are printed, class by class, are those that uses need; a sum past
-- its type's end stays at that end
pub record CostsWhatIsNeeded {W : Type 0} (w : world.Ghosts W) (route : Route) (uses : List Use)
    (report : Report) : Type 0 where
  pub searches :
      map (λ class. class.searches) report.classes
      ≡ map (λ class. within64 (needed w route class uses)) (class_places route)
  pub dials :
      map (λ class. class.dials) report.classes
      ≡ map (λ class. within64 (dials_needed route class uses)) (class_places route)

-- a report of events that are orderly with these runs
pub record IsOrderlyReport {W : Type 0} (w : world.Ghosts W) (route : Route) (runs : List ClientRun)
    (report : Report) : Type 0 where
  pub plain : AreAllPlain report.clients
  pub costs : CostsWhatIsNeeded w route (uses_of route (dated_works runs)) report

-- of any events: where they are orderly
abbrev pub SharesIfOrderly : {W : Type 0} → world.Ghosts W → Route → List Event → Report → Type 0
SharesIfOrderly w route events report =
    (runs : List ClientRun) → IsOrderly w route events runs → IsOrderlyReport w route runs report

-- so of events that are played over a wire: where it counts exactly, was quiet and without links
-- before, and the route is fair
abbrev pub SharesIfOrderlyOver : {W : Type 0} → world.Ghosts W → (exact : Bool) → Route → List Event
    → Counts → Happened → Report → Type 0
SharesIfOrderlyOver w exact route events counts happened report =
    exact ≡ true → IsFair w route → IsQuietWire counts happened
    → SharesIfOrderly w route events report

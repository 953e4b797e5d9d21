-- Which marks the sums of a page leave (this project's own)
use Rattle.std.specs.Prelude.{◌≡◌, ◌+◌, ◌≤◌, ◌<◌, true}
use Rattle.z_types.specs.declared.world.World as world
use Rattle.gw_outside.specs.Counts.{Counts}
use Rattle.route_config.specs.declared.route.PoolNumbers.{PoolNumbers}
use Rattle.route_config.specs.declared.route.Route.{Route}
use Rattle.replay.specs.front_conn_costs.steps.Growth.{last64}
use Rattle.replay.specs.front_conn_costs.steps.Numbers.{dials, faults, full, gone, gones, link, silent}
use Rattle.replay.specs.Counts.{in_classes, met_for}
use Rattle.replay.specs.Uncaused.{AreAllPlain}
use Rattle.replay.specs.Wires.{IsCountedBy}
use Rattle.replay.specs.declared.reports.Report.{Report}

-- no count of a wire comes to its last value, where it would stand still, with what a report adds
pub record CountsGoOn (before behind : Counts) (report : Report) : Type 0 where
  pub links_made : before.dials + in_classes dials report.classes < last64
  pub sets_gone : before.gones + in_classes gones report.classes < last64
  pub calls_failed : before.faults + in_classes faults report.classes < last64
  pub looks_rise : before.waits ≤ behind.waits
  pub looks_in_vain : behind.waits < last64

-- a report has a fault for each Link, and one set more that was gone than the pool repeats for each
-- Gone; the wire has as many looks in vain as the pool is patient for each Silent; and where one is
-- Full, as many links were made, or failed, as there may be sessions
pub record HasCauses (pool : PoolNumbers) (before behind : Counts) (report : Report) : Type 0 where
  pub links : met_for pool link report.clients ≤ in_classes faults report.classes
  pub deletions : met_for pool gone report.clients ≤ in_classes gones report.classes
  pub silences : before.waits + met_for pool silent report.clients ≤ behind.waits
  pub fulls : 1 ≤ met_for pool full report.clients
      → pool.max_sessions ≤ in_classes dials report.classes + in_classes faults report.classes

-- no call failed, no more sets were gone than one request bears, fewer links were made than there
-- may be sessions, and fewer looks were in vain than one request bears
pub record IsCalm (pool : PoolNumbers) (before behind : Counts) (report : Report) : Type 0 where
  pub unfailing : in_classes faults report.classes ≡ 0
  pub few_gone : in_classes gones report.classes ≤ pool.repeats
  pub few_links : in_classes dials report.classes < pool.max_sessions
  pub few_looks : behind.waits < before.waits + pool.patience

-- what an exact wire counted tells which marks there may be, and where it is calm all are Plain
pub record MarksLeft (pool : PoolNumbers) (before behind : Counts) (report : Report) : Type 0 where
  pub caused : HasCauses pool before behind report
  pub plain : IsCalm pool before behind report → AreAllPlain report.clients

abbrev pub SumsLeaveMarks : {W : Type 0} → world.Ghosts W → Type 0
SumsLeaveMarks w =
    (route : Route) (before behind : Counts) (report : Report)
    → IsCountedBy w true route before behind report → CountsGoOn before behind report
    → MarksLeft route.pool before behind report

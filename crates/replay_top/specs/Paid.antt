-- What a full pool comes of over any wire (this project's own)
use Rattle.std.specs.Prelude.{◌≡◌, ℕ, ◌+◌, ◌≤◌, ◌<◌, Bool, true, false}
use Rattle.z_types.specs.declared.world.World as world
use Rattle.gw_outside.specs.Counts.{Counts}
use Rattle.route_config.specs.declared.route.Route.{Route}
use Rattle.replay_shares.specs.front_conn_costs.steps.Growth.{last64}
use Rattle.replay_shares.specs.front_conn_costs.steps.Numbers.{dials, full}
use Rattle.replay_shares.specs.replay.Counts.{in_classes, met_for}
use Rattle.replay_shares.specs.replay.Wires.{AreTold}
use Rattle.replay_shares.specs.replay.declared.reports.Report.{Report}

-- the count of links stands below its last value: the wire's own where it counts exactly, and else
-- that of those that are reported
abbrev pub AreLinksBelowEnd : (exact : Bool) → Report → (behind : Counts) → Type 0
AreLinksBelowEnd true report behind = behind.dials < last64
AreLinksBelowEnd false report behind = in_classes dials report.classes < last64

-- Where a client was told that the pool is full, at least as many links are reported, or calls
-- failed, as there may be sessions of a class. Calls that failed are those that the wire counted,
-- and breaches; a target that tells what it answers makes none of these.
pub record IsFullPaid {W : Type 0} (w : world.Ghosts W) (exact : Bool) (route : Route)
    (before behind : Counts) (report : Report)
    : Type 0 where
  pub breaches : ℕ
  pub told : AreTold w route → breaches ≡ 0
  pub paid : 1 ≤ met_for route.pool full report.clients → AreLinksBelowEnd exact report behind
      → behind.faults + breaches < last64 → route.pool.max_sessions + before.faults
      ≤ in_classes dials report.classes + behind.faults + breaches

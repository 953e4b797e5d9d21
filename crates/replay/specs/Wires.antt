-- What the sums of a report count, and what its marks come of, where it was played over a wire
-- (this project's own)
use Rattle.std.specs.Prelude.{◌≡◌, ℕ, ◌+◌, ◌≤◌, ◌<◌, Bool, true, List, Option, Contains}
use Rattle.z_types.specs.Bounds.{within64}
use Rattle.z_types.specs.Logins.{inside}
use Rattle.z_types.specs.declared.address.Address.{Address}
use Rattle.z_types.specs.declared.world.World as world
use Rattle.gw_outside.specs.Counts.{Counts}
use Rattle.route_config.specs.declared.route.Class.{Class}
use Rattle.route_config.specs.declared.route.PoolNumbers.{PoolNumbers}
use Rattle.route_config.specs.declared.route.Route.{Route}
use Rattle.front_conn_costs.specs.steps.Growth.{last64}
use Rattle.front_conn_costs.specs.steps.Numbers.{dials, faults, full, gone, gones, link, searches, silent}
use Rattle.replay.specs.Counts.{in_classes, met_for}
use Rattle.replay.specs.Marks.{AreMarksOf}
use Rattle.replay.specs.declared.reports.Report.{Report}

-- a count of 64 bits rose by just so much, or by as much at least; it stands still at its last
-- value
abbrev pub RoseBy : ℕ → (before behind : ℕ) → Type 0
RoseBy n before behind = before ≤ last64 → behind ≡ within64 (before + n)

abbrev pub RoseAtLeast : ℕ → (before behind : ℕ) → Type 0
RoseAtLeast n before behind = before ≤ last64 → within64 (before + n) ≤ behind

-- links that were made, Searches that were sent, and replies that a result set is gone: the wire
-- counted just as many as are reported; and as many calls that failed, with the breaches of targets
pub record AreWireSums (report : Report) (breaches : ℕ) (before behind : Counts) : Type 0 where
  pub dials : RoseBy (in_classes dials report.classes) before.dials behind.dials
  pub searches : RoseBy (in_classes searches report.classes) before.searches behind.searches
  pub gones : RoseBy (in_classes gones report.classes) before.gones behind.gones
  pub faults : within64 (before.faults + in_classes faults report.classes)
      ≡ within64 (behind.faults + breaches)

-- for each Link the wire counted a fault, or a target a breach; for each Silent as many looks in
-- vain as the pool is patient; and for each Gone, where the wire counts them, one reply more that a
-- set is gone than the pool repeats
pub record HaveWireCauses (exact : Bool) (pool : PoolNumbers) (report : Report) (breaches : ℕ)
    (before behind : Counts) : Type 0 where
  pub links : within64 (before.faults + met_for pool link report.clients)
      ≤ within64 (behind.faults + breaches)
  pub silents : RoseAtLeast (met_for pool silent report.clients) before.waits behind.waits
  pub gones : exact ≡ true
      → RoseAtLeast (met_for pool gone report.clients) before.gones behind.gones

-- where a client was told that the pool is full, at least as many links were made, or failed, as
-- there may be sessions of a class; these counts stand below their last value
abbrev pub IsFullCaused : PoolNumbers → Report → (breaches : ℕ) → (behind : Counts) → Type 0
IsFullCaused pool report breaches behind =
    1 ≤ met_for pool full report.clients → behind.dials < last64 → behind.faults + breaches < last64
    → pool.max_sessions ≤ in_classes dials report.classes + in_classes faults report.classes

-- each target of the route tells what it answers, by itself and inside every login
abbrev pub AreTold : {W : Type 0} → world.Ghosts W → Route → Type 0
AreTold w route =
    (login : Option (List ℕ)) (class : Class) → Contains route.classes class → (address : Address)
    → Contains class.addresses address → w.told (inside login address)

-- A wire counted what is reported, and a new pool was played with: so do the sums where each of the
-- wire's counts is exact, each mark has its cause, and says as many looks, or sessions, as the
-- pool's numbers do. A breach is a reply that is none to what was asked; a target that tells what
-- it answers makes none.
pub record IsCountedBy {W : Type 0} (w : world.Ghosts W) (exact : Bool) (route : Route)
    (before behind : Counts) (report : Report)
    : Type 0 where
  pub breaches : ℕ
  pub told : AreTold w route → breaches ≡ 0
  pub sums : exact ≡ true → AreWireSums report breaches before behind
  pub causes : HaveWireCauses exact route.pool report breaches before behind
  pub fulls : exact ≡ true → IsFullCaused route.pool report breaches behind
  pub marks : AreMarksOf route.pool route.pool.max_sessions report.clients

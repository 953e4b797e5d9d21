-- What the sums of a report count, and what its marks come of (this project's own)
use Rattle.std.specs.Prelude.{ℕ, ◌+◌, ◌*◌, ◌≤◌, Bool, List}
use Rattle.std.specs.List.{sum_by}
use Rattle.route_config.specs.declared.route.PoolNumbers.{PoolNumbers}
use Rattle.front_conn_costs.specs.front_conn.steps.Answering.{Outside}
use Rattle.front_conn_costs.specs.steps.Conns.{marks_of, outside_counts, outside_meets}
use Rattle.front_conn_costs.specs.steps.Growth.{RisesAsMuch, RisesEnough}
use Rattle.front_conn_costs.specs.steps.Numbers.{Caused, IsTold, Number, dials, faults, gones, searches, weight}
use Rattle.replay.specs.declared.reports.ClassReport.{ClassReport}
use Rattle.replay.specs.declared.reports.ClientReport.{ClientReport}
use Rattle.replay.specs.declared.reports.Report.{Report}

-- ---- sums

-- a number in the report of a class, and in those of all
abbrev pub in_class : Number → ClassReport → ℕ
in_class dials class = class.dials
in_class searches class = class.searches
in_class gones class = class.gones
in_class faults class = class.faults

abbrev pub in_classes : Number → List ClassReport → ℕ
in_classes number classes = sum_by (in_class number) classes

-- links made, Searches sent, sets that were gone, and over an exact backend calls that failed: the
-- backend counted just as many as are reported
abbrev pub AreSums : {S : Type 0} → (exact : Bool) → Report → (before behind : Outside S) → Type 0
AreSums exact report before behind =
    (number : Number) → IsTold exact number
    → RisesAsMuch 0 (in_classes number report.classes) (outside_counts number before)
    (outside_counts number behind)

-- ---- marks

-- how often the cause of marks of a kind was met at least, where these clients have them
abbrev pub met_for : PoolNumbers → Caused → List ClientReport → ℕ
met_for pool kind clients = sum_by (λ client. weight pool kind * marks_of kind client.marks) clients

-- no mark is invented: for each Link the backend counted a fault, for each Silent as many looks in
-- vain as the pool is patient, for each Gone one Gone more than it repeats; and for each Full the
-- door was full
abbrev pub HaveCauses : {S : Type 0} → PoolNumbers → Report → (before behind : Outside S) → Type 0
HaveCauses pool report before behind =
    (kind : Caused)
    → RisesEnough 0 (met_for pool kind report.clients) (outside_meets kind before)
    (outside_meets kind behind)

-- ---- the addresses that the door named

-- each was dialled, or failed: as often as the door named one, the backend made a link or a call of
-- it failed, at least
pub record AreDialled {S : Type 0} (before behind : Outside S) : Type 0 where
  pub opens : ℕ
  pub dials : ℕ
  pub faults : ℕ
  pub named : RisesAsMuch 0 opens before.door.counts.opens behind.door.counts.opens
  pub made : RisesEnough 0 dials before.backend.counts.dials behind.backend.counts.dials
  pub failed : RisesEnough 0 faults before.backend.counts.faults behind.backend.counts.faults
  pub paid : opens ≤ dials + faults

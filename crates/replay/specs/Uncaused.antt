-- Where no cause of a mark was counted (this project's own)
use Rattle.std.specs.Prelude.{◌≡◌, ◌<◌, List}
use Rattle.std.specs.List.{AllByRecursion}
use Rattle.front_conn_costs.specs.gateway_rules.OneAnswer.{AreMarksPlain}
use Rattle.route_config.specs.Sound.{ArePoolNumbers}
use Rattle.route_config.specs.declared.route.PoolNumbers.{PoolNumbers}
use Rattle.front_conn_costs.specs.front_conn.steps.Answering.{Outside}
use Rattle.front_conn_costs.specs.steps.Conns.{outside_meets}
use Rattle.front_conn_costs.specs.steps.Growth.{last64}
use Rattle.front_conn_costs.specs.steps.Numbers.{Caused}
use Rattle.replay.specs.Counts.{HaveCauses}
use Rattle.replay.specs.declared.reports.ClientReport.{ClientReport}
use Rattle.replay.specs.declared.reports.Report.{Report}

-- the marks of all clients are Plain
abbrev pub AreAllPlain : List ClientReport → Type 0
AreAllPlain clients = AllByRecursion (λ client. AreMarksPlain client.marks) clients

-- no call failed, no look was in vain, no set was gone and the door was never full: none of these
-- counts rose, each below its last value
pub record IsUncaused {S : Type 0} (before behind : Outside S) : Type 0 where
  pub below : (kind : Caused) → outside_meets kind before < last64
  pub still : (kind : Caused) → outside_meets kind behind ≡ outside_meets kind before

-- then every mark is Plain
abbrev pub UncausedIsPlain : Type 0 → Type 0
UncausedIsPlain S =
    (pool : PoolNumbers) (report : Report) (before behind : Outside S)
    → ArePoolNumbers pool → HaveCauses pool report before behind → IsUncaused before behind
    → AreAllPlain report.clients

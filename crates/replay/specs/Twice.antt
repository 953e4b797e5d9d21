-- Reports of two replays (this project's own)
use Rattle.std.specs.Prelude.{◌≡◌, List, Contains}
use Rattle.z_types.specs.declared.world.World as world
use Rattle.route_config.specs.declared.route.Route.{Route}
use Rattle.front_conn_costs.specs.gateway_rules.Fair.{IsFair}
use Rattle.front_conn_costs.specs.gateway_rules.OneAnswer.{AreMarksPlain}
use Rattle.script.specs.declared.event.Event.{Event}
use Rattle.script.specs.Events.{fed}
use Rattle.replay.specs.Report.{IsReportOf}
use Rattle.replay.specs.declared.reports.ClientReport.{ClientReport}
use Rattle.replay.specs.declared.reports.Report.{Report}

-- two clients have the same marks, were written the same, and ended the same
pub record AreAlike (one two : ClientReport) : Type 0 where
  pub marks : one.marks ≡ two.marks
  pub bytes : one.bytes ≡ two.bytes
  pub end : one.end ≡ two.end

-- where two replays of a fair route feed a client the same octets, and list it Plain alone, they
-- write it the same and end its connection the same, whatever else they play
abbrev pub IsReadTwice : {W : Type 0} → world.Ghosts W → Type 0
IsReadTwice w =
    (route : Route) (events others : List Event) (report other : Report) (one two : ClientReport)
    → IsFair w route → IsReportOf w route events report → IsReportOf w route others other
    → Contains report.clients one → Contains other.clients two
    → fed events one.number ≡ fed others two.number → AreMarksPlain one.marks
    → AreMarksPlain two.marks → AreAlike one two

-- What a report says of the octets that clients were fed (this project's own)
use Rattle.std.specs.Prelude.{◌≡◌, List, map}
use Rattle.std.specs.List.{AllByRecursion}
use Rattle.z_types.specs.declared.world.World as world
use Rattle.route_config.specs.declared.route.Route.{Route}
use Rattle.front_conn_costs.specs.sru_rules.Answers.{Answers}
use Rattle.front_conn_costs.specs.gateway_rules.Fair.{IsFair}
use Rattle.script.specs.declared.event.Event.{Event}
use Rattle.script.specs.Events.{fed, named}
use Rattle.replay.specs.declared.reports.ClientReport.{ClientReport}
use Rattle.replay.specs.declared.reports.Report.{Report}

-- the client was written the answers to what the events feed it, under the marks that are listed,
-- which fit these octets, and its connection ended as they end it
abbrev pub IsAnswered : {W : Type 0} → world.Ghosts W → Route → List Event → ClientReport → Type 0
IsAnswered w route events client =
    Answers w route (fed events client.number) client.marks client.bytes client.end

-- The report is of the clients that the events name, once and in ascending order. On a fair route
-- each was answered to what it was fed, whatever steps, ticks and accidents come between: no other
-- client, no session, no pool and no clock is in that answer. The classes are the route's, in its
-- order.
pub record IsReportOf {W : Type 0} (w : world.Ghosts W) (route : Route) (events : List Event)
    (report : Report) : Type 0 where
  pub clients : map (λ client. client.number) report.clients ≡ named events
  pub each : IsFair w route → AllByRecursion (IsAnswered w route events) report.clients
  pub classes : map (λ class. class.name) report.classes ≡ map (λ class. class.name) route.classes

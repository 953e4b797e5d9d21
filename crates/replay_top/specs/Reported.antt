-- What is sure of the report of events that were played over a wire (this project's own)
use Rattle.std.specs.Prelude.{Bool, true, false, List}
use Rattle.z_types.specs.declared.world.World as world
use Rattle.route_config.specs.declared.route.Route.{Route}
use Rattle.script.specs.declared.event.Event.{Event}
use Rattle.replay_shares.specs.replay.declared.reports.Report.{Report}
use Rattle.replay_shares.specs.replay.Report.{IsReportOf}
use Rattle.replay_shares.specs.replay.Undisturbed.{IsUntroubledIf}
use Rattle.replay_shares.specs.replay.Wires.{IsCountedBy}
use Rattle.replay_laws.specs.Borne.{IsBorneIf, WentThrough, keeps_records}
use Rattle.replay_shares.specs.Shares.{SharesIfOrderlyOver}
use Rattle.cache_backend.specs.Sessions.{keeping}
use Rattle.replay_top.specs.Outside.{WireCalls}
use Rattle.replay_top.specs.Paid.{IsFullPaid}

-- what a replay went through, with sessions that keep records where the route does
abbrev pub WentThroughBy : {W S : Type 0} → (keeps : Bool) → world.Ghosts W → WireCalls W S
    → Route → List Event → Report → Type 0
WentThroughBy false w calls route events report =
    WentThrough w calls.sessions calls.exact route events calls.happened calls.behind report
WentThroughBy true w calls route events report =
    WentThrough w (keeping calls.sessions) calls.exact route events calls.happened
    calls.behind report

-- Each client was answered to the octets that it was fed; the sums are what the wire counted, the
-- marks have their counted cause, and a full pool was paid for; and more is sure where nothing
-- befalls links; where no more befalls them than is borne, by what the replay went through and by
-- the events alone; and where the events are orderly.
pub record IsPlayedReport {W S : Type 0} (w : world.Ghosts W) (calls : WireCalls W S)
    (route : Route) (events : List Event) (report : Report)
    : Type 0 where
  pub right : IsReportOf w route events report
  pub counted : IsCountedBy w calls.exact route calls.before calls.behind report
  pub full_paid : IsFullPaid w calls.exact route calls.before calls.behind report
  pub untroubled : IsUntroubledIf w calls.exact route events calls.before calls.happened report
  pub through : WentThroughBy (keeps_records route) w calls route events report
  pub borne : IsBorneIf w calls.exact route events calls.happened calls.behind report
  pub shared : SharesIfOrderlyOver w calls.exact route events calls.before calls.happened report

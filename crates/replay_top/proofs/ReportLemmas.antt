-- What a run ensures of its report, together
use Rattle.std.proofs.Common.{◌≡◌, Bool, true, false, List, Result, Ok, Err, subst}
use Rattle.std.specs.Prelude.{IfOk}
use Rattle.z_types.specs.declared.sitting.Sitting as sitting
use Rattle.z_types.specs.declared.world.World as world
use Rattle.gw_outside.specs.Counts.{Counts}
use Rattle.gw_outside.specs.Happened.{Happened}
use Rattle.route_config.specs.declared.route.Route.{Route}
use Rattle.script.specs.declared.event.Event.{Event}
use Rattle.replay_shares.specs.replay.declared.reports.Report.{Report}
use Rattle.replay_shares.specs.replay.Report.{IsReportOf}
use Rattle.replay_shares.specs.replay.Undisturbed.{IsUntroubledIf}
use Rattle.replay_shares.specs.replay.Wires.{IsCountedBy}
use Rattle.cache_backend.specs.Sessions.{keeping}
use Rattle.replay_laws.specs.Borne.{IsBorneIf, WentThrough, keeps_records}
use Rattle.replay_shares.specs.Shares.{SharesIfOrderlyOver}
use Rattle.replay_top.specs.Outside.{WireCalls}
use Rattle.replay_top.specs.Paid.{IsFullPaid}
use Rattle.replay_top.specs.Reported.{IsPlayedReport, WentThroughBy}

pub played_ok : {E W S : Type 0} (w : world.Ghosts W) (calls : WireCalls W S) (route : Route) (events : List Event) (result : Result Report E)
    → IfOk result (IsReportOf w route events) → IfOk result (IsCountedBy w calls.exact route calls.before calls.behind)
    → IfOk result (IsFullPaid w calls.exact route calls.before calls.behind)
    → IfOk result (IsUntroubledIf w calls.exact route events calls.before calls.happened)
    → IfOk result (WentThroughBy (keeps_records route) w calls route events)
    → IfOk result (IsBorneIf w calls.exact route events calls.happened calls.behind)
    → IfOk result (SharesIfOrderlyOver w calls.exact route events calls.before calls.happened)
    → IfOk result (IsPlayedReport w calls route events)
played_ok w calls route events (Ok report) right counted full_paid untroubled through borne shared = record {
  right = right;
  counted = counted;
  full_paid = full_paid;
  untroubled = untroubled;
  through = through;
  borne = borne;
  shared = shared;
}
played_ok w calls route events (Err err) right counted full_paid untroubled through borne shared = tt

-- without a record kept the sessions are those over the wire
pub plain_through : {E W S : Type 0} (keeps : Bool) (w : world.Ghosts W) (calls : WireCalls W S) (route : Route) (events : List Event)
    (result : Result Report E) → keeps ≡ false
    → IfOk result (WentThrough w calls.sessions calls.exact route events calls.happened calls.behind)
    → IfOk result (WentThroughBy keeps w calls route events)
plain_through false w calls route events result e went = went
plain_through true w calls route events result e went = absurd cc

-- else those that keep records
pub keeping_through : {E W S : Type 0} (keeps : Bool) (w : world.Ghosts W) (calls : WireCalls W S) (route : Route) (events : List Event)
    (result : Result Report E) → keeps ≡ true
    → IfOk result (WentThrough w (keeping calls.sessions) calls.exact route events calls.happened calls.behind)
    → IfOk result (WentThroughBy keeps w calls route events)
keeping_through true w calls route events result e went = went
keeping_through false w calls route events result e went = absurd cc

-- the calls of a call over a wire that has these counts before and behind it
abbrev calls-of : {W S : Type 0} → sitting.Ghosts S W → Bool → Counts → Counts → Happened → WireCalls W S
calls-of sessions exact before behind happened =
    record { sessions = sessions; exact = exact; before = before; behind = behind; happened = happened }

-- of a route that keeps no records
pub plain_ok : {E W S : Type 0} (w : world.Ghosts W) (t : sitting.Ghosts S W) (exact : Bool) (before behind : Counts) (happened : Happened)
    (route : Route) (events : List Event) (result : Result Report E)
    → keeps_records route ≡ false → IfOk result (IsReportOf w route events) → IfOk result (IsCountedBy w exact route before behind)
    → IfOk result (IsFullPaid w exact route before behind) → IfOk result (IsUntroubledIf w exact route events before happened)
    → IfOk result (WentThrough w t exact route events happened behind) → IfOk result (IsBorneIf w exact route events happened behind)
    → IfOk result (SharesIfOrderlyOver w exact route events before happened)
    → IfOk result (IsPlayedReport w (calls-of t exact before behind happened) route events)
plain_ok w t exact before behind happened route events result keeps right counted full_paid untroubled through borne shared =
    played_ok w (calls-of t exact before behind happened) route events result right counted full_paid untroubled
    (plain_through (keeps_records route) w (calls-of t exact before behind happened) route events result keeps through) borne shared

-- and of one that keeps some
pub keeping_ok : {E W S : Type 0} (w : world.Ghosts W) (t : sitting.Ghosts S W) (exact : Bool) (before behind : Counts) (happened : Happened)
    (route : Route) (events : List Event) (result : Result Report E)
    → keeps_records route ≡ true → IfOk result (IsReportOf w route events) → IfOk result (IsCountedBy w exact route before behind)
    → IfOk result (IsFullPaid w exact route before behind) → IfOk result (IsUntroubledIf w exact route events before happened)
    → IfOk result (WentThrough w (keeping t) exact route events happened behind) → IfOk result (IsBorneIf w exact route events happened behind)
    → IfOk result (SharesIfOrderlyOver w exact route events before happened)
    → IfOk result (IsPlayedReport w (calls-of t exact before behind happened) route events)
keeping_ok w t exact before behind happened route events result keeps right counted full_paid untroubled through borne shared =
    played_ok w (calls-of t exact before behind happened) route events result right counted full_paid untroubled
    (keeping_through (keeps_records route) w (calls-of t exact before behind happened) route events result keeps through) borne shared

-- so it is of a route and of events that are these
pub played_as : {E W S : Type 0} (w : world.Ghosts W) (calls : WireCalls W S) (route other : Route) (events others : List Event)
    (result : Result Report E) → other ≡ route → others ≡ events → IfOk result (IsPlayedReport w calls other others)
    → IfOk result (IsPlayedReport w calls route events)
played_as w calls route other events others result same_route same_events played =
    subst (λ (r : Route). IfOk result (IsPlayedReport w calls r events)) same_route
    (subst (λ (es : List Event). IfOk result (IsPlayedReport w calls other es)) same_events played)

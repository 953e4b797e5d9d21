use Rattle.std.proofs.Common.{ℕ, subst, sym, arith}
use Rattle.std.proofs.lemmas.Result.{IfOk-weaker}
use Rattle.replay.specs.Trace.{ArePlayed, IsReported, IsRunOf, Playing, closings, outside_of}
use Rattle.replay.specs.Report.{IsReportOf}
use Rattle.replay.specs.steps.Clients.{AreClientsOf}
use Rattle.replay.proofs.ClientLemmas.{nobody}
use Rattle.replay.proofs.ReportLemmas.{is_right}
use Rattle.front_conn_costs.specs.front_conn.steps.Answering.{Outside}
use Rattle.replay.specs.Counts.{AreDialled, AreSums, HaveCauses}
use Rattle.replay.proofs.SumLemmas.{costed_on}
use Rattle.replay.proofs.SumReports.{dialled_reported, marks_reported, nobody_counted, nobody_kept, nobody_met, sums_reported}
use Rattle.replay.proofs.runs.play_all.Goals as goal

pub play-requires-clause-none : goal.play-requires-clause-none
play-requires-clause-none g c =
    nobody g.W.World g.B.Session.Sitting c.args.route.now (g.D.Door.counts c.args.door.now).most c.args.clients.now c.requires.nobody.all c.requires.nobody.none

pub close_all-requires : goal.close_all-requires
close_all-requires g c = (
  c.args.events.now,
  subst (λ (m : ℕ). AreClientsOf g.W.World g.B.Session.Sitting c.args.route.now m c.args.events.now c.play.new.clients) (sym c.play.ensures.most) c.in_ok-now.ensures.stand,
)

pub report-requires : goal.report-requires
report-requires g c =
    let closed = c.in_ok-close_all.ensures.fed c.args.events.now
    (subst (λ (m : ℕ). AreClientsOf g.W.World g.B.Session.Sitting c.args.route.now m c.args.events.now c.play.new.clients) (sym c.play.ensures.most) c.in_ok-now.ensures.stand) in record {
      few = omega (arith, closed.all);
      ended = c.in_ok-close_all.ensures.ended;
    }

pub returns-clause-report : goal.returns-clause-report
returns-clause-report g c =
    let closed = c.in_ok-close_all.ensures.fed c.args.events.now
    (subst (λ (m : ℕ). AreClientsOf g.W.World g.B.Session.Sitting c.args.route.now m c.args.events.now c.play.new.clients) (sym c.play.ensures.most) c.in_ok-now.ensures.stand) in
    IfOk-weaker c.report.result (IsReported c.args.route.now c.close_all.new.clients) (IsReportOf g.W.World c.args.route.now c.args.events.now)
    (λ report reported. is_right g.W.World g.B.Session.Sitting c.args.route.now (g.D.Door.counts c.play.new.door).most
    c.connection_laws.ensures.answered c.args.events.now c.close_all.new.clients report closed reported) c.report.ensures.reported

pub returns-clause-run : goal.returns-clause-run
returns-clause-run g c =
    let stand = subst (λ (m : ℕ). AreClientsOf g.W.World g.B.Session.Sitting c.args.route.now m c.args.events.now c.play.new.clients) (sym c.play.ensures.most)
    c.in_ok-now.ensures.stand in
    let mid : Playing g.row.B-Session.Denot =
    record { clients = c.play.new.clients; outside = outside_of g.D.Door g.B.Watched c.play.new.door c.play.new.backend } in
    let finish : Playing g.row.B-Session.Denot =
    record { clients = c.close_all.new.clients; outside = outside_of g.D.Door g.B.Watched c.close_all.new.door c.close_all.new.backend } in
    IfOk-weaker c.report.result (IsReported c.args.route.now c.close_all.new.clients)
    (IsRunOf g.W.World g.B.Session.Sitting g.B.Watched.exact c.args.route.now c.args.events.now
    (outside_of g.D.Door g.B.Watched c.args.door.now c.args.backend.now) finish.outside)
    (λ report reported. record {
      start = c.args.clients.now;
      places = c.requires.nobody.all;
      nobody = c.requires.nobody.none;
      mid = mid;
      played = c.in_ok-now.ensures.played;
      finish = c.close_all.new.clients;
      closed = subst (λ (n : ℕ). ArePlayed g.W.World g.B.Session.Sitting g.B.Watched.exact c.args.route.now (closings c.args.events.now) n mid finish)
          c.in_ok-now.ensures.moment (c.in_ok-close_all.ensures.played c.args.events.now stand);
      reported = reported;
    }) c.report.ensures.reported

pub returns-clause-sums : goal.returns-clause-sums
returns-clause-sums g c =
    let before : Outside g.row.B-Session.Denot = outside_of g.D.Door g.B.Watched c.args.door.now c.args.backend.now in
    let behind : Outside g.row.B-Session.Denot = outside_of g.D.Door g.B.Watched c.close_all.new.door c.close_all.new.backend in
    IfOk-weaker c.report.result (IsReported c.args.route.now c.close_all.new.clients) (λ report. AreSums g.B.Watched.exact report before behind)
    (λ report reported. sums_reported c.cost_laws.ensures.rest c.args.route.now g.B.Watched.exact c.args.clients.now c.close_all.new.clients report before behind
    (λ number. nobody_counted number c.args.clients.now c.requires.nobody.none) (nobody_kept c.args.route.now c.args.clients.now c.requires.nobody.none)
    c.in_ok-close_all.ensures.ended reported
    (costed_on g.B.Watched.exact c.args.route.now (record { clients = c.args.clients.now; outside = before })
    (record { clients = c.play.new.clients; outside = outside_of g.D.Door g.B.Watched c.play.new.door c.play.new.backend })
    (record { clients = c.close_all.new.clients; outside = behind }) c.in_ok-now.ensures.costed c.in_ok-close_all.ensures.costed)) c.report.ensures.reported

pub returns-clause-causes : goal.returns-clause-causes
returns-clause-causes g c =
    let before : Outside g.row.B-Session.Denot = outside_of g.D.Door g.B.Watched c.args.door.now c.args.backend.now in
    let behind : Outside g.row.B-Session.Denot = outside_of g.D.Door g.B.Watched c.close_all.new.door c.close_all.new.backend in
    IfOk-weaker c.report.result (IsReported c.args.route.now c.close_all.new.clients) (λ report. HaveCauses c.args.route.now.pool report before behind)
    (λ report reported. marks_reported c.cost_laws.ensures.marks g.B.Watched.exact c.args.route.now c.args.clients.now c.close_all.new.clients report before behind
    (λ kind. nobody_met c.args.route.now.pool kind c.args.clients.now c.requires.nobody.none) reported
    (costed_on g.B.Watched.exact c.args.route.now (record { clients = c.args.clients.now; outside = before })
    (record { clients = c.play.new.clients; outside = outside_of g.D.Door g.B.Watched c.play.new.door c.play.new.backend })
    (record { clients = c.close_all.new.clients; outside = behind }) c.in_ok-now.ensures.costed c.in_ok-close_all.ensures.costed)) c.report.ensures.reported

pub returns-clause-dialled : goal.returns-clause-dialled
returns-clause-dialled g c =
    let before : Outside g.row.B-Session.Denot = outside_of g.D.Door g.B.Watched c.args.door.now c.args.backend.now in
    let behind : Outside g.row.B-Session.Denot = outside_of g.D.Door g.B.Watched c.close_all.new.door c.close_all.new.backend in
    IfOk-weaker c.report.result (IsReported c.args.route.now c.close_all.new.clients) (λ report. AreDialled before behind)
    (λ report reported. dialled_reported g.B.Watched.exact c.args.route.now c.args.clients.now c.close_all.new.clients before behind
    c.requires.nobody.none c.in_ok-close_all.ensures.ended
    (costed_on g.B.Watched.exact c.args.route.now (record { clients = c.args.clients.now; outside = before })
    (record { clients = c.play.new.clients; outside = outside_of g.D.Door g.B.Watched c.play.new.door c.play.new.backend })
    (record { clients = c.close_all.new.clients; outside = behind }) c.in_ok-now.ensures.costed c.in_ok-close_all.ensures.costed)) c.report.ensures.reported

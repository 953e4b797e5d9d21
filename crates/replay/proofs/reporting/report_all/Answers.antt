use Rattle.std.proofs.Common.{◌≡◌, ◌∙◌, ◌<◌, ℕ, IfSome, IsSome, get_or, length, refl, sym, ap, subst, arith}
use Rattle.replay.specs.Clients.{client_at}
use Rattle.replay.specs.Trace.{AreReported, costs_upto}
use Rattle.replay.proofs.ClientLemmas.{client_at-other, client_at-read}
use Rattle.replay.proofs.ReportLemmas.{next_costs, next_reported, none_reported}
use Rattle.replay.proofs.reporting.report_all.Goals as goal

pub loop-place-init : goal.loop-place-init
loop-place-init g c = record {
  others = λ other behind. refl;
  reports = none_reported c.args.clients.now c.new-reports.result c.new-reports.ensures;
  costs = refl;
}

pub report_place-requires : goal.report_place-requires
report_place-requires g c =
    let place = c.loop-place.place in
    let here = get_or c.loop-place.clients place c.index-clients-place.result in
    let now_there : place < length c.loop-place.clients = omega (arith, c.loop-place-test.true, c.loop-place.auto.clients) in
    let is : here ≡ client_at c.args.clients.now place =
    sym c.index-clients-place.is ∙ client_at-read c.loop-place.clients place c.index-clients-place.result now_there c.index-clients-place.is ∙ c.loop-place.invariant.others place (omega arith) in
    subst (λ p. IfSome p (λ client. IsSome client.conn.end)) (sym is) (c.requires.ended place)

pub loop-place-preserved : goal.loop-place-preserved
loop-place-preserved g c =
    let clients = c.args.clients.now in
    let place = c.loop-place.place in
    let here = get_or c.loop-place.clients place c.index-clients-place.result in
    let now_there : place < length c.loop-place.clients = omega (arith, c.loop-place-test.true, c.loop-place.auto.clients) in
    let is : here ≡ client_at clients place =
    sym c.index-clients-place.is ∙ client_at-read c.loop-place.clients place c.index-clients-place.result now_there c.index-clients-place.is ∙ c.loop-place.invariant.others place (omega arith) in record {
      others = λ other behind.
          client_at-other c.loop-place.clients place other c.report_place.new.place (λ (e : other ≡ place). absurd (omega (arith, behind, e)))
          ∙ c.loop-place.invariant.others other (omega (arith, behind));
      reports = next_reported place clients here c.loop-place.reports c.report_place.new.reports is c.loop-place.invariant.reports c.in_ok-report_place.ensures.reported;
      costs = next_costs place clients here c.args.costs.now c.loop-place.costs c.report_place.new.costs is c.loop-place.invariant.costs c.report_place.ensures.costs;
    }

pub returns-clause-reports : goal.returns-clause-reports
returns-clause-reports g c =
    let end : c.loop-place.place ≡ length c.args.clients.now = omega (arith, c.loop-place-test.false, c.loop-place.auto.place-end) in
    subst (λ (n : ℕ). AreReported n c.args.clients.now c.loop-place.reports) end c.loop-place.invariant.reports

pub returns-clause-costs : goal.returns-clause-costs
returns-clause-costs g c =
    let end : c.loop-place.place ≡ length c.args.clients.now = omega (arith, c.loop-place-test.false, c.loop-place.auto.place-end) in
    c.loop-place.invariant.costs ∙ ap (λ (n : ℕ). costs_upto n c.args.clients.now c.args.costs.now) end

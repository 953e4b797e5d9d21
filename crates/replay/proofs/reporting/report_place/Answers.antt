use Rattle.std.proofs.Common.{◌∙◌, sym}
use Rattle.std.proofs.lemmas.Result.{on_ok_weaker}
use Rattle.replay.proofs.ReportLemmas.{behind_none, behind_some, costs_none, costs_some, end_some}
use Rattle.replay.proofs.reporting.report_place.Goals as goal

pub report_client-requires : goal.report_client-requires
report_client-requires g c = end_some c.args.place.now c.in-Some.client (sym c.take.ensures.value ∙ c.in-Some.is) c.requires

pub returns-clause-reported : goal.returns-clause-reported
returns-clause-reported g c =
    on_ok_weaker c.report_client.result
    (behind_some c.args.number c.args.place.now c.in-Some.client c.args.reports.now c.report_client.new.reports
    (sym c.take.ensures.value ∙ c.in-Some.is)) c.report_client.ensures.reported

pub returns-clause-costs : goal.returns-clause-costs
returns-clause-costs g c =
    c.report_client.ensures.costs ∙ costs_some c.args.place.now c.in-Some.client c.args.costs.now (sym c.take.ensures.value ∙ c.in-Some.is)

pub returns-in_default-clause-reported : goal.returns-in_default-clause-reported
returns-in_default-clause-reported g c =
    behind_none c.args.number c.args.place.now c.args.reports.now (sym c.take.ensures.value ∙ c.in_default.is)

pub returns-in_default-clause-costs : goal.returns-in_default-clause-costs
returns-in_default-clause-costs g c =
    costs_none c.args.place.now c.args.costs.now (sym c.take.ensures.value ∙ c.in_default.is)

use Rattle.std.proofs.Common.{◌∙◌, ap}
use Rattle.std.proofs.lemmas.Result.{on_ok_weaker}
use Rattle.replay.specs.Classes.{costs_after}
use Rattle.replay.proofs.reporting.report_client.Goals as goal

pub returns-clause-reported : goal.returns-clause-reported
returns-clause-reported g c = on_ok_weaker c.push.result (λ e. (c.into_report.result, c.into_report.ensures, e)) c.push.ensures.ok

pub returns-clause-costs : goal.returns-clause-costs
returns-clause-costs g c = c.add_totals.ensures ∙ ap (λ totals. costs_after c.args.costs.now totals) (c.as_slice.ensures ∙ c.totals.ensures)

use Rattle.std.proofs.Common.{◌∙◌, sym}
use Rattle.front_z.specs.gateway_rules.Works.{FitsWork}
use Rattle.package.specs.steps.Ends.{outcome_in}
use Rattle.package.specs.steps.Packages.{AsksSo, IsOver}
use Rattle.front_conn.proofs.EndedLemmas.{ends-get, ends-request, get-here, idle-here, of-work}
use Rattle.front_conn.proofs.answering.Answering.end_work.Goals as goal

pub end_request-requires-clause-waits : goal.end_request-requires-clause-waits
end_request-requires-clause-waits g c =
    idle-here _ c.args.self.now c.self.view_is c.in-Some.package (sym c.take.ensures.value ∙ c.in-Some.is) c.args.route.now
    (sym c.is_idle.ensures ∙ c.if-is_idle.true) c.requires.one_work

pub end_request-requires-clause-asks : goal.end_request-requires-clause-asks
end_request-requires-clause-asks g c =
    of-work _ c.args.self.now c.self.view_is c.in-Some.package (sym c.take.ensures.value ∙ c.in-Some.is) (AsksSo c.args.route.now) c.requires.asks

pub end_request-requires-clause-over : goal.end_request-requires-clause-over
end_request-requires-clause-over g c =
    of-work _ c.args.self.now c.self.view_is c.in-Some.package (sym c.take.ensures.value ∙ c.in-Some.is) IsOver c.requires.over

pub end_request-requires-clause-fits : goal.end_request-requires-clause-fits
end_request-requires-clause-fits g c =
    of-work _ c.args.self.now c.self.view_is c.in-Some.package (sym c.take.ensures.value ∙ c.in-Some.is)
    (λ view. FitsWork view.work (outcome_in c.args.route.now view)) c.requires.fits

pub end_get-requires-clause-waits : goal.end_get-requires-clause-waits
end_get-requires-clause-waits g c =
    get-here _ c.args.self.now c.self.view_is c.in-Some.package (sym c.take.ensures.value ∙ c.in-Some.is) c.args.route.now
    (sym c.is_idle.ensures ∙ c.if-is_idle.false) c.requires.one_work

pub end_get-requires-clause-asks : goal.end_get-requires-clause-asks
end_get-requires-clause-asks g c =
    of-work _ c.args.self.now c.self.view_is c.in-Some.package (sym c.take.ensures.value ∙ c.in-Some.is) (AsksSo c.args.route.now) c.requires.asks

pub end_get-requires-clause-over : goal.end_get-requires-clause-over
end_get-requires-clause-over g c =
    of-work _ c.args.self.now c.self.view_is c.in-Some.package (sym c.take.ensures.value ∙ c.in-Some.is) IsOver c.requires.over

pub end_get-requires-clause-fits : goal.end_get-requires-clause-fits
end_get-requires-clause-fits g c =
    of-work _ c.args.self.now c.self.view_is c.in-Some.package (sym c.take.ensures.value ∙ c.in-Some.is)
    (λ view. FitsWork view.work (outcome_in c.args.route.now view)) c.requires.fits

pub returns-then-is_idle-clause-ended : goal.returns-then-is_idle-clause-ended
returns-then-is_idle-clause-ended g c =
    ends-request c.args.route.now _ c.args.self.now c.self.view_is c.in-Some.package (sym c.take.ensures.value ∙ c.in-Some.is)
    c.end_request.new.self c.take.new.self c.add_accounts.new.totals c.accounts.result.now c.end_request.result c.requires.over
    c.add_accounts.ensures c.accounts.ensures c.end_request.ensures.totals (sym c.is_idle.ensures ∙ c.if-is_idle.true) c.end_request.ensures.ended

pub returns-else-is_idle-clause-ended : goal.returns-else-is_idle-clause-ended
returns-else-is_idle-clause-ended g c =
    ends-get c.args.route.now _ c.args.self.now c.self.view_is c.in-Some.package (sym c.take.ensures.value ∙ c.in-Some.is)
    c.end_get.new.self c.take.new.self c.add_accounts.new.totals c.accounts.result.now c.end_get.result c.requires.over
    c.add_accounts.ensures c.accounts.ensures c.end_get.ensures.totals (sym c.is_idle.ensures ∙ c.if-is_idle.false) c.end_get.ensures.ended

use Rattle.std.proofs.Common.{◌≡◌, [], subst}
use Rattle.route_config.specs.declared.route.Route.{Route}
use Rattle.sru_request.specs.Checks as checks
use Rattle.sru_request.specs.Parameters.{parameters_of}
use Rattle.front_sru.proofs.WhatIsRead.{get_taken, get_refused, kept_if_read}
use Rattle.front_sru.proofs.reading.retrieval_of.Goals as goal

pub returns-in-Ok-clause-read : goal.returns-in-Ok-clause-read
returns-in-Ok-clause-read c =
    get_taken c.args.route.now c.args.database.now c.args.get.now c.in-Ok.asked c.retrieval_for.result
    (subst (λ (route : Route). checks.faults route.schemas (parameters_of c.args.get.now.query) ≡ []) c.parts.ensures.same
    c.in-Ok.ensures.taken)
    (subst (λ (route : Route). checks.IsAsked route.schemas (parameters_of c.args.get.now.query) c.in-Ok.asked)
    c.parts.ensures.same c.in-Ok.ensures.asked)
    c.retrieval_for.ensures

pub returns-in-Ok-clause-kept : goal.returns-in-Ok-clause-kept
returns-in-Ok-clause-kept c =
    kept_if_read c.args.route.now c.args.database.now c.args.get.now c.retrieval_for.result c.parts.ensures.sound c.requires
    (returns-in-Ok-clause-read c)

pub returns-in-Err-clause-read : goal.returns-in-Err-clause-read
returns-in-Err-clause-read c =
    get_refused c.args.route.now c.args.database.now c.args.get.now c.in-Err.fault
    (subst
    (λ (route : Route). checks.IsRefusal (checks.faults route.schemas (parameters_of c.args.get.now.query)) c.in-Err.fault)
    c.parts.ensures.same c.in-Err.ensures.refused)

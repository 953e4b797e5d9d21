use Rattle.std.proofs.Common.{subst}
use Rattle.route_config.specs.declared.route.Route.{Route}
use Rattle.std.specs.Prelude.{Ok, Err}
use Rattle.front_sru.specs.Queries.{IsReadQuery}
use Rattle.front_sru.proofs.WhatIsRead.{query-opened, query-refused}
use Rattle.front_sru.proofs.reading.retrieval_for.Goals as goal

pub returns-in-Ok : goal.returns-in-Ok
returns-in-Ok c =
    query-opened c.args.route.now c.args.database.now c.args.asked c.in-Ok.query c.retrieval_by.result
    (subst (λ (route : Route). IsReadQuery c.args.asked.version route.indexes c.args.asked.query (Ok c.in-Ok.query)) c.parts.ensures.same c.in-Ok.ensures)
    c.retrieval_by.ensures

pub returns-in-Err : goal.returns-in-Err
returns-in-Err c =
    query-refused c.args.route.now c.args.database.now c.args.asked c.in-Err.fault
    (subst (λ (route : Route). IsReadQuery c.args.asked.version route.indexes c.args.asked.query (Err c.in-Err.fault)) c.parts.ensures.same c.in-Err.ensures)

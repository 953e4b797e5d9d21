use Rattle.std.proofs.lemmas.Result.{err_from_is_err_and}
use Rattle.gateway_rules.specs.Asking.{query_work}
use Rattle.gateway_rules.specs.Checks.{search_checks}
use Rattle.front_session.specs.Refusals.{client_with}
use Rattle.front_session.proofs.CheckLemmas.{due_refused}
use Rattle.front_session.proofs.SearchLemmas.{search_fails, search_works, search-ready}
use Rattle.front_session.proofs.search.search_due.Goals as goal

pub returns-in_err-legs-clause-due : goal.returns-in_err-legs-clause-due
returns-in_err-legs-clause-due c =
    let p = err_from_is_err_and c.from_residual.result c.from_residual.ensures.1 in
    let client = client_with c.args.agreed.now c.args.spent.now c.args.sets.now in
    let route = c.args.route.now in
    let search = c.args.search.now in
    rw (p.1, p.2) (due_refused (search_checks route client search) (query_work route client search search.query) c.in_err-legs.field-0.0 c.in_err-legs.ensures)

pub returns-in_err-query-clause-due : goal.returns-in_err-query-clause-due
returns-in_err-query-clause-due c =
    let p = err_from_is_err_and c.from_residual-in_err-query.result c.from_residual-in_err-query.ensures.1 in
    let client = client_with c.args.agreed.now c.args.spent.now c.args.sets.now in
    rw (p.1, p.2) (search_fails c.args.route.now client c.args.search.now c.in_ok-legs.legs c.in_err-query.field-0.0 c.in_ok-legs.ensures.0 c.in_ok-legs.ensures.1.found c.in_err-query.ensures.expansion)

pub returns-clause-due : goal.returns-clause-due
returns-clause-due c =
    let client = client_with c.args.agreed.now c.args.spent.now c.args.sets.now in
    let works = search_works c.args.route.now client c.args.search.now c.in_ok-legs.legs c.in_ok-query.query c.in_ok-legs.ensures.0 c.in_ok-legs.ensures.1.found c.in_ok-query.ensures.expansion in
    rw (c.in_ok-search_work.ensures, c.room_left-room.ensures.room, c.parts.ensures.same) works

pub returns-clause-ready : goal.returns-clause-ready
returns-clause-ready c =
    search-ready c.args.route.now c.args.agreed.now.login c.args.search.now c.in_ok-legs.legs c.in_ok-query.query c.room_left-room.result c.args.spent.now.records _
    c.in_ok-search_work.ensures c.requires.login c.in_ok-legs.ensures.1 c.in_ok-query.ensures.askable c.room_left-room.ensures.few c.room_left-room.ensures.fits

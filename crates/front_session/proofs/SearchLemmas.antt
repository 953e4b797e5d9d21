-- What a Search is due, by what its parts answer
use Rattle.std.proofs.Common.{◌≡◌, ◌≤◌, ◌<◌, ◌+◌, ◌^◌, ◌∙◌, ap, subst, ℕ, List, length, Option, None, Result, Ok, Err}
use Rattle.z_types.specs.Bounds.{most_legs}
use Rattle.z_types.specs.declared.work.Work.{Work}
use Rattle.z_types.specs.declared.diagnostic.Diag.{Diag}
use Rattle.z_types.specs.declared.query.RpnQuery.{RpnQuery}
use Rattle.z_types.specs.declared.requests.Asked.{Asked}
use Rattle.z_types.specs.declared.requests.Asked.TheVariants.{Good, Bad}
use Rattle.z_types.specs.declared.requests.Search.{Search}
use Rattle.route_config.specs.declared.route.Route.{Route}
use Rattle.limit_rules.specs.Limits.{room, most_records}
use Rattle.virt_db.specs.Legs.{few_legs, legs_of}
use Rattle.z_sets.specs.Askable.{IsAskableQuery}
use Rattle.z_sets.specs.Expansion.{expanded}
use Rattle.z_sets.specs.declared.fault.ExpandFault.{ExpandFault}
use Rattle.gateway_rules.specs.Asking as asking
use Rattle.gateway_rules.specs.Asking.{query_work, search_work as work_due}
use Rattle.gateway_rules.specs.Checks.{checked, search_checks}
use Rattle.gateway_rules.specs.State.{ClientState}
use Rattle.unit_forms.specs.Logins.{IsLoginIf}
use Rattle.gateway_rules.specs.Works.{CanBegin, IsAskable}
use Rattle.front_session.specs.Refusals.{FailsWith, first_diagnostic}
use Rattle.front_session.specs.Searches.{PassesChecks, expansion_of, or_fault, search_work}
use Rattle.front_session.specs.Sessions.{HasRoomFor}
use Rattle.front_session.specs.declared.refusal.Refusal.{Refusal}
use Rattle.front_session.specs.declared.refusal.Refusal.TheVariants.{Refused, Memory}
use Rattle.front_session.proofs.CheckLemmas.{checked_passes, legs_found}

fault_fails : (route : Route) (client : ClientState) (search : Search) (found : Result RpnQuery ExpandFault) (diag : Diag)
    → or_fault found ≡ Err diag → work_due route client search found ≡ Err diag
fault_fails route client search (Ok query) diag h = cc
fault_fails route client search (Err fault) diag h = cc

found_works : (route : Route) (client : ClientState) (search : Search) (found : Result RpnQuery ExpandFault) (query : RpnQuery)
    → or_fault found ≡ Ok query → found ≡ Ok query
found_works route client search (Ok query) other h = cc
found_works route client search (Err fault) other h = cc

query_fails : (route : Route) (client : ClientState) (search : Search) (asked : Asked RpnQuery) (diag : Diag)
    → expansion_of asked (legs_of route search.dbs) client.sets ≡ Err diag → query_work route client search asked ≡ Err diag
query_fails route client search (Bad other) diag h = cc
query_fails route client search (Good query) diag h =
    fault_fails route client search (expanded query (legs_of route search.dbs) client.sets) diag h

query_works : (route : Route) (client : ClientState) (search : Search) (asked : Asked RpnQuery) (query : RpnQuery)
    → expansion_of asked (legs_of route search.dbs) client.sets ≡ Ok query
    → query_work route client search asked ≡ Ok (asking.works (search_work client.agreed.login search (legs_of route search.dbs) query (room route.limits client.records)))
query_works route client search (Bad other) query h = cc
query_works route client search (Good asked) query h =
    ap (work_due route client search) (found_works route client search (expanded asked (legs_of route search.dbs) client.sets) query h)

-- all checks pass, and the query has no expansion
pub search_fails : (route : Route) (client : ClientState) (search : Search) (legs : List ℕ) (e : Refusal)
    → first_diagnostic (search_checks route client search) ≡ None → few_legs (legs_of route search.dbs) ≡ Ok legs
    → FailsWith (expansion_of search.query legs client.sets) e
    → FailsWith (checked (search_checks route client search) (query_work route client search search.query)) e
search_fails route client search legs (Refused diag) none found h =
    let same = (legs_found route search.dbs legs found).0 in
    let expands : expansion_of search.query (legs_of route search.dbs) client.sets ≡ Err diag =
    ap (λ legs. expansion_of search.query legs client.sets) same ∙ h in
    checked_passes (search_checks route client search) (query_work route client search search.query) none
    ∙ query_fails route client search search.query diag expands
search_fails route client search legs Memory none found h = tt

-- all checks pass, and the query has an expansion
pub search_works : (route : Route) (client : ClientState) (search : Search) (legs : List ℕ) (query : RpnQuery)
    → first_diagnostic (search_checks route client search) ≡ None → few_legs (legs_of route search.dbs) ≡ Ok legs
    → expansion_of search.query legs client.sets ≡ Ok query
    → checked (search_checks route client search) (query_work route client search search.query)
    ≡ Ok (asking.works (search_work client.agreed.login search legs query (room route.limits client.records)))
search_works route client search legs query none found h =
    let same = (legs_found route search.dbs legs found).0 in
    let expands : expansion_of search.query (legs_of route search.dbs) client.sets ≡ Ok query =
    ap (λ legs. expansion_of search.query legs client.sets) same ∙ h in
    checked_passes (search_checks route client search) (query_work route client search search.query) none
    ∙ query_works route client search search.query query expands
    ∙ ap (λ legs. Ok (asking.works (search_work client.agreed.login search legs query (room route.limits client.records)))) same

-- a Search that passes its checks, whose query has an expansion, may be asked of its legs
pub search-ready : (route : Route) (login : Option (List ℕ)) (search : Search) (legs : List ℕ) (query : RpnQuery) (most given : ℕ) (work : Work)
    → work ≡ search_work login search legs query most → IsLoginIf login → PassesChecks route search legs → IsAskableQuery query
    → most ≤ most_records → given + most < 2 ^ 32 → CanBegin work × IsAskable work × HasRoomFor given work
search-ready route login search legs query most given work is its_login passes askable few fits =
    let found = legs_found route search.dbs legs passes.found in
    let short : length legs ≤ most_legs = subst (λ (list : List ℕ). length list ≤ most_legs) found.0 found.1 in
    rw is ((short, few), (askable, passes.elements.0, passes.elements.1, its_login), fits)

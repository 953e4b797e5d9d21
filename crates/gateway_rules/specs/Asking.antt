-- What a request in its place asks of the targets, or is answered at once (ANSI/NISO Z39.50-2003,
-- 3.2.1.1, 3.2.2.1, 3.2.3.1, 3.2.8.1 and 3.2.11.1)
use Rattle.std.specs.Prelude.{ℕ, ◌==◌, List, [], Option, None, Some, Result, Ok, Err, if◌then◌else◌, nat_abs, slice_get}
use Rattle.z_types.specs.declared.diagnostic.Diag.{Diag}
use Rattle.z_types.specs.declared.query.RpnQuery.{RpnQuery}
use Rattle.z_types.specs.declared.requests.Asked.{Asked}
use Rattle.z_types.specs.declared.requests.Asked.TheVariants.{Good, Bad}
use Rattle.z_types.specs.declared.requests.Search.{Search}
use Rattle.z_types.specs.declared.scan.ScanAsk.{ScanAsk}
use Rattle.z_types.specs.declared.world.World as world
use Rattle.z_types.specs.Under.{under}
use Rattle.route_config.specs.declared.route.Route.{Route}
use Rattle.gateway_rules.specs.Checks.{checked, search_checks, present_checks, scan_checks, no_expansion}
use Rattle.z_types.specs.Bib1.{bib1}
use Rattle.z_types.specs.declared.conditions.Condition.TheVariants.{CombinationOfDatabasesNotSupported}
use Rattle.z_sets.specs.declared.fault.ExpandFault.{ExpandFault}
use Rattle.z_sets.specs.Expansion.{expanded}
use Rattle.gateway_rules.specs.Given.{present_reply}
use Rattle.virt_db.specs.Legs.{legs_of}
use Rattle.limit_rules.specs.Limits.{room}
use Rattle.gateway_rules.specs.Replies.{failed, init_reply, close_reply}
use Rattle.z_sets.specs.Sets.{StoredSet, set_named}
use Rattle.gateway_rules.specs.State.{ClientState}
use Rattle.gateway_rules.specs.declared.agreement.Agreement.{Agreement}
use Rattle.gateway_rules.specs.Statuses.{finished}
use Rattle.gateway_rules.specs.Targets.{hits_of}
use Rattle.z_types.specs.declared.outcome.Fetched.TheVariants as fetched
use Rattle.z_types.specs.declared.requests.Present.{Present}
use Rattle.z_types.specs.declared.replies.Reply.{Reply}
use Rattle.z_types.specs.declared.requests.Request.TheVariants as request
use Rattle.z_types.specs.declared.requests.Request.{Request}
use Rattle.z_types.specs.declared.requests.Scan.{Scan}
use Rattle.z_types.specs.declared.work.Work.TheVariants as work
use Rattle.z_types.specs.declared.work.Work.{Work}

-- a reply at once, or what is asked of the targets first
pub data Asking : Type 0 where
  at_once : Reply → Asking
  works : Work → Asking

-- a request that a check refuses fails at once
abbrev pub unless_refused : Request → Result Asking Diag → Asking
unless_refused request (Err diag) = at_once (failed request diag)
unless_refused request (Ok due) = due

-- ---- Search

-- what a Search asks, once its query stands without operand sets
abbrev pub search_work : Route → ClientState → Search → Result RpnQuery ExpandFault
    → Result Asking Diag
search_work route client search (Err fault) = Err (no_expansion fault)
search_work route client search (Ok query) =
    Ok
    (works (work.Search client.agreed.login
    (legs_of route search.dbs) query search.small search.large search.medium
    search.small_element search.medium_element search.syntax (room route.limits client.records)))

-- the query of a Search without operand sets
abbrev pub query_work : Route → ClientState → Search → Asked RpnQuery → Result Asking Diag
query_work route client search (Bad diag) = Err diag
query_work route client search (Good query) =
    search_work route client search (expanded query (legs_of route search.dbs) client.sets)

-- a Search: its checks, the last of them that its query has an expansion
abbrev pub search_due : Route → ClientState → Search → Result Asking Diag
search_due route client search =
    checked (search_checks route client search) (query_work route client search search.query)

-- ---- Present

-- the hits of a set that was found: a client has no set that a target refuses
abbrev pub known_hits : Result (List ℕ) Diag → List ℕ
known_hits (Ok hits) = hits
known_hits (Err diag) = []

-- the hits that the targets mean by a client's set
abbrev pub hits_meant : {W : Type 0} → world.Ghosts W → Route → Option StoredSet → List ℕ
hits_meant w route None = []
hits_meant w route (Some set) = known_hits (hits_of w route set.legs set.query)

-- the element set name of a Present
abbrev pub element_of : Asked (Option (List ℕ)) → Option (List ℕ)
element_of (Good element) = element
element_of (Bad diag) = None

-- what a Present of a client with this login asks of a set; where it asks for no record it is
-- answered at once
abbrev pub fetch_work : Option (List ℕ) → Present → List ℕ → Option StoredSet → Asking
fetch_work login present hits None = at_once (present_reply present hits 0 fetched.None)
fetch_work login present hits (Some set) =
    if present.number == 0 then at_once (present_reply present hits 0 fetched.None)
    else works
    (work.Fetch login set.legs set.query hits (nat_abs present.start) present.number present.syntax
    (element_of present.element))

-- a Present: its checks
abbrev pub present_due : Route → ClientState → Present → Option StoredSet → List ℕ
    → Result Asking Diag
present_due route client present set hits =
    checked (present_checks route client present hits)
    (Ok (fetch_work client.agreed.login present hits set))

-- ---- Scan

-- what a Scan of a client with this login asks of its leg
abbrev pub leg_work : Option (List ℕ) → ScanAsk → Option ℕ → Result Asking Diag
leg_work login ask None = Err (bib1 CombinationOfDatabasesNotSupported [])
leg_work login ask (Some leg) = Ok (works (work.Scan login leg ask))

-- what a Scan asks
abbrev pub scan_work : Option (List ℕ) → Asked ScanAsk → Option ℕ → Result Asking Diag
scan_work login (Bad diag) leg = Err diag
scan_work login (Good ask) leg = leg_work login ask leg

-- a Scan of a client whose Init settled this: its checks
abbrev pub scan_due : Route → Agreement → Scan → Result Asking Diag
scan_due route agreed scan =
    checked (scan_checks route agreed.whose scan)
    (scan_work agreed.login scan.ask (slice_get (legs_of route scan.dbs) 0))

-- ---- any request

-- what a request in its place is due, where the client's set of a name has these hits; a Work has
-- the client's login
abbrev pub asked_with : (hits_of_set : List ℕ → List ℕ) → Route → ClientState → Request → Asking
asked_with hits_of_set route client (request.Init init) = at_once (init_reply route init)
asked_with hits_of_set route client (request.Search search) =
    unless_refused (request.Search search) (search_due route client search)
asked_with hits_of_set route client (request.Present present) =
    unless_refused (request.Present present)
    (present_due route client present (set_named present.set_name client.sets)
    (hits_of_set present.set_name))
asked_with hits_of_set route client (request.Scan scan) =
    unless_refused (request.Scan scan) (scan_due route client.agreed scan)
asked_with hits_of_set route client (request.Close close) =
    at_once (close_reply close.ref_id finished)

-- what a request in its place is due, where each set has the hits that the targets mean under the
-- client's login
abbrev pub asked : {W : Type 0} → world.Ghosts W → Route → ClientState → Request → Asking
asked w route client =
    asked_with
    (λ name. hits_meant (under client.agreed.login w) route (set_named name client.sets))
    route client

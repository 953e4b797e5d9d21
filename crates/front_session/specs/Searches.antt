-- For contracts alone: the parts of what a Search is due (this project's own)
use Rattle.std.specs.Prelude.{◌≡◌, ℕ, List, false, Option, Result, Ok, Err}
use Rattle.z_types.specs.declared.conditions.Condition.TheVariants as condition
use Rattle.z_types.specs.declared.diagnostic.Diag.{Diag}
use Rattle.z_types.specs.declared.known_set.KnownSet.{KnownSet}
use Rattle.z_types.specs.declared.query.RpnQuery.{RpnQuery}
use Rattle.z_types.specs.declared.requests.Asked.{Asked}
use Rattle.z_types.specs.declared.requests.Asked.TheVariants.{Good, Bad}
use Rattle.z_types.specs.declared.requests.Search.{Search}
use Rattle.z_types.specs.declared.work.Work.{Work}
use Rattle.z_types.specs.declared.work.Work.TheVariants as work
use Rattle.limit_rules.specs.declared.spent.Spent.{Spent}
use Rattle.route_config.specs.declared.route.Route.{Route}
use Rattle.virt_db.specs.Legs.{few_legs, legs_of}
use Rattle.z_sets.specs.Sets.{StoredSet}
use Rattle.z_sets.specs.Expansion.{expanded}
use Rattle.z_sets.specs.declared.fault.ExpandFault.{ExpandFault}
use Rattle.z_sets.specs.declared.fault.ExpandFault.TheVariants as fault
use Rattle.gateway_rules.specs.Asking.{search_due}
use Rattle.gateway_rules.specs.Checks.{is_too_long, no_expansion}
use Rattle.front_session.specs.Refusals.{AnswersDue, client_with}
use Rattle.gateway_rules.specs.declared.agreement.Agreement.{Agreement}
use Rattle.front_session.specs.declared.asking.Asking.{Asking}
use Rattle.front_session.specs.declared.refusal.Refusal.{Refusal}
use Rattle.front_session.specs.declared.refusal.Refusal.TheVariants.{Refused, Memory}

-- no name of an element set of a Search is too long
abbrev pub HasShortElements : Search → Type 0
HasShortElements search =
    (is_too_long search.small_element ≡ false) × (is_too_long search.medium_element ≡ false)

-- no check of a Search refuses: its legs are found, and no name of its element sets is too long
pub record PassesChecks (route : Route) (search : Search) (legs : List ℕ) : Type 0 where
  pub found : few_legs (legs_of route search.dbs) ≡ Ok legs
  pub elements : HasShortElements search

-- an expansion, or the diagnostic of its fault
abbrev pub or_fault : Result RpnQuery ExpandFault → Result RpnQuery Diag
or_fault (Ok query) = Ok query
or_fault (Err fault) = Err (no_expansion fault)

-- the query of a Search without operand sets, or why there is none
abbrev pub expansion_of : Asked RpnQuery → List ℕ → List StoredSet → Result RpnQuery Diag
expansion_of (Bad diag) legs sets = Err diag
expansion_of (Good query) legs sets = or_fault (expanded query legs sets)

-- a fault as a refusal; want of memory has no cause
abbrev pub IsNoExpansion : ExpandFault → Refusal → Type 0
IsNoExpansion fault.Memory refusal = refusal ≡ Memory
IsNoExpansion why refusal = refusal ≡ Refused (no_expansion why)

-- what a Search of a client with this login asks of these legs
abbrev pub search_work : Option (List ℕ) → Search → List ℕ → RpnQuery → ℕ → Work
search_work login search legs query room =
    work.Search login legs query search.small search.large search.medium search.small_element
    search.medium_element
    search.syntax room

-- what a Search is due, where its client's Init settled this, and it has spent so much and has
-- these sets
abbrev pub AnswersSearch : Route → Agreement → Spent → List KnownSet → Search
    → Result Asking Refusal → Type 0
AnswersSearch route agreed spent sets search answer =
    AnswersDue (search_due route (client_with agreed spent sets) search) answer

-- What a request is refused for before any target is asked, in order (ANSI/NISO Z39.50-2003,
-- Appendix 4 ERR; the order and the bounds are this project's own)
use Rattle.std.specs.Prelude.{ℕ, pos, ◌+◌, ◌-◌, ◌==◌, ◌&&◌, ◌||◌, Bool, false, not, List, [], ◌∷◌, length}
use Rattle.std.specs.Prelude.{codes, Option, None, Some, is_some, is_none, Result, Ok, Err, if◌then◌else◌}
use Rattle.std.specs.Prelude.{◌++◌, option_and_then, nat_lt, nat_abs, int_lt}
use Rattle.std.specs.Fmt.{decimal}
use Rattle.z_types.specs.Bib1.{bib1}
use Rattle.z_types.specs.declared.conditions.Condition.TheVariants as condition
use Rattle.z_types.specs.declared.diagnostic.Diag.{Diag}
use Rattle.z_types.specs.declared.requests.Asked.{Asked}
use Rattle.z_types.specs.declared.requests.Asked.TheVariants.{Good, Bad}
use Rattle.z_types.specs.declared.requests.Search.{Search}
use Rattle.z_types.specs.declared.scan.ScanAsk.{ScanAsk}
use Rattle.route_config.specs.declared.route.Route.{Route}
use Rattle.z_sets.specs.declared.fault.ExpandFault.TheVariants as fault
use Rattle.z_sets.specs.declared.fault.ExpandFault.{ExpandFault}
use Rattle.virt_db.specs.declared.fault.DbFault.TheVariants as names
use Rattle.virt_db.specs.declared.fault.DbFault.{DbFault}
use Rattle.virt_db.specs.Legs.{legs_of, few_legs, why_none}
use Rattle.access_rules.specs.Denials.{first_denial}
use Rattle.access_rules.specs.declared.who.Who.{Who}
use Rattle.limit_rules.specs.Limits.{are_searches_spent, are_sets_full, are_too_many}
use Rattle.z_types.specs.MergedOrder.{total}
use Rattle.z_types.specs.QueryMeasures.{leaf_cost}
use Rattle.z_types.specs.Bounds.{most_name_octets, most_query_cost}
use Rattle.z_types.specs.declared.limits.Limits.{Limits}
use Rattle.z_sets.specs.Sets.{StoredSet, set_named}
use Rattle.gateway_rules.specs.State.{ClientState}
use Rattle.z_types.specs.declared.requests.Present.{Present}
use Rattle.z_types.specs.declared.requests.Scan.{Scan}

-- the most terms of a Scan
abbrev pub most_terms : ℕ
most_terms = 1000

-- a check: its diagnostic, where it refuses
abbrev pub refused_where : Bool → Diag → Option Diag
refused_where test diag = if test then Some diag else None

-- a form that was read and is not served refuses with its own diagnostic
abbrev pub not_served : {A : Type 0} → Asked A → Option Diag
not_served (Good asked) = None
not_served (Bad diag) = Some diag

-- the diagnostic of the first check that refuses, or else what comes behind them
abbrev pub checked : {A : Type 0} → List (Option Diag) → Result A Diag → Result A Diag
checked [] behind = behind
checked (None ∷ checks) behind = checked checks behind
checked (Some diag ∷ checks) behind = Err diag

-- an element set name is too long
abbrev pub is_too_long : Option (List ℕ) → Bool
is_too_long None = false
is_too_long (Some name) = nat_lt most_name_octets (length name)

-- database names that stand for no legs
abbrev pub no_legs : DbFault → Option Diag
no_legs (names.Unknown name) = Some (bib1 condition.DatabaseDoesNotExist name)
no_legs (names.TooMany count) = Some (bib1 condition.TooManyDatabases (decimal count))
no_legs names.Memory = None

-- databases: some, not too many, each of them there
abbrev pub names_check : Route → List (List ℕ) → Option Diag
names_check route names = option_and_then no_legs (why_none route names)

-- legs that are not too many
abbrev pub legs_check : Result (List ℕ) DbFault → Option Diag
legs_check (Ok legs) = None
legs_check (Err fault) = no_legs fault

-- databases: there they are; none of them is one that the client may not search; and their legs are
-- not too many
abbrev pub database_checks : Route → Who → List (List ℕ) → List (Option Diag)
database_checks route client names =
    names_check route names
    ∷ first_denial route client names
    ∷ legs_check (few_legs (legs_of route names))
    ∷ []

-- no Search may be asked after `searches` others
abbrev pub searches_check : Limits → ℕ → Option Diag
searches_check limits searches =
    refused_where (are_searches_spent limits searches)
    (bib1 condition.ResourcesExhausted (codes "searches"))

-- an element set name of a Search is too long
abbrev pub elements_check : Search → Option Diag
elements_check search =
    refused_where (is_too_long search.small_element || is_too_long search.medium_element)
    (bib1 condition.ElementSetNameNotValid (codes "long"))

-- the result set's name is in use and is not to be replaced, or is new and one too many beside
-- `count` others
abbrev pub name_checks : Limits → Option StoredSet → ℕ → Search → List (Option Diag)
name_checks limits named count search =
    refused_where (is_some named && not search.replace)
    (bib1 condition.ResultSetExists search.set_name)
    ∷ refused_where (not (is_some named) && are_sets_full limits count)
    (bib1 condition.TooManyResultSets [])
    ∷ []

-- a Search, up to its query
abbrev pub search_checks : Route → ClientState → Search → List (Option Diag)
search_checks route client search =
    searches_check route.limits client.searches
    ∷ not_served search.query
    ∷ elements_check search
    ∷ database_checks route client.agreed.whose search.dbs
    ++ name_checks route.limits (set_named search.set_name client.sets) (length client.sets) search

-- a query that has no expansion
abbrev pub no_expansion : ExpandFault → Diag
no_expansion (fault.UnknownSet name) = bib1 condition.ResultSetDoesNotExist name
no_expansion (fault.OtherLegs name) = bib1 condition.CombinationOfDatabasesNotSupported name
no_expansion too_much = bib1 condition.ResourcesExhausted (codes "query")

-- the element set name of a Present is too long
abbrev pub element_check : Asked (Option (List ℕ)) → Option Diag
element_check (Good element) =
    refused_where (is_too_long element) (bib1 condition.ElementSetNameNotValid (codes "long"))
element_check (Bad diag) = None

-- there is no result set of a name
abbrev pub set_check : Option StoredSet → List ℕ → Option Diag
set_check named name = refused_where (is_none named) (bib1 condition.ResultSetDoesNotExist name)

-- a Present does not lie within a result set of this count: its start is below 1, or its last
-- record beyond the count
abbrev pub is_out_of_range : Present → ℕ → Bool
is_out_of_range present count =
    int_lt present.start (pos 1) || nat_lt count (nat_abs present.start + present.number - 1)

abbrev pub range_check : Present → ℕ → Option Diag
range_check present count =
    refused_where (is_out_of_range present count) (bib1 condition.PresentRequestOutOfRange [])

-- records are too many for one request, or after `given` others
abbrev pub number_check : Limits → ℕ → Present → Option Diag
number_check limits given present =
    refused_where (are_too_many limits given present.number)
    (bib1 condition.TooManyRecordsRetrieved [])

-- a Present, where its set has these hits
abbrev pub present_checks : Route → ClientState → Present → List ℕ → List (Option Diag)
present_checks route client present hits =
    not_served present.element
    ∷ element_check present.element
    ∷ set_check (set_named present.set_name client.sets) present.set_name
    ∷ range_check present (total hits)
    ∷ number_check route.limits client.records present
    ∷ []

-- a Scan asks for too many terms
abbrev pub terms_check : ScanAsk → Option Diag
terms_check ask =
    refused_where (nat_lt most_terms ask.number) (bib1 condition.ResourcesExhausted (codes "terms"))

-- the attributes and the term of a Scan cost too much as an operand
abbrev pub cost_check : ScanAsk → Option Diag
cost_check ask =
    refused_where (nat_lt most_query_cost (leaf_cost ask.attrs ask.term))
    (bib1 condition.ResourcesExhausted (codes "query"))

abbrev pub ask_checks : Asked ScanAsk → List (Option Diag)
ask_checks (Bad diag) = []
ask_checks (Good ask) = terms_check ask ∷ cost_check ask ∷ []

-- a Scan
abbrev pub scan_checks : Route → Who → Scan → List (Option Diag)
scan_checks route client scan =
    not_served scan.ask
    ∷ database_checks route client scan.dbs
    ++ refused_where (not (length (legs_of route scan.dbs) == 1))
    (bib1 condition.CombinationOfDatabasesNotSupported [])
    ∷ ask_checks scan.ask

-- What a GET asks of the targets, or why it asks nothing (SRU 1.2, searchRetrieve; CQL 1.2, mapped
-- to a query of type 1)
use Rattle.std.specs.Prelude.{ℕ, ◌||◌, ◌-◌, ◌+◌, Bool, List, [], ◌∷◌, Option, None, Some, Result, Ok, Err, min}
use Rattle.std.specs.Prelude.{if◌then◌else◌, nat_lt, slice_get, option_map}
use Rattle.z_types.specs.Bounds.{most_query_depth, most_query_nodes, most_query_cost}
use Rattle.z_types.specs.QueryMeasures.{tree_depth, tree_cost}
use Rattle.z_types.specs.Tree as rpn
use Rattle.z_types.specs.Tree.{tree_size}
use Rattle.z_types.specs.MergedOrder.{total}
use Rattle.z_types.specs.declared.diagnostic.Diag.{Diag}
use Rattle.z_types.specs.declared.query.RpnQuery.{RpnQuery}
use Rattle.z_types.specs.declared.schemas.Schema.{Schema}
use Rattle.z_types.specs.declared.sru.SruDiag.{SruDiag}
use Rattle.z_types.specs.declared.work.Work.{Work}
use Rattle.z_types.specs.declared.work.Work.TheVariants as work
use Rattle.route_config.specs.declared.route.Database.{Database}
use Rattle.route_config.specs.declared.route.Index.{Index}
use Rattle.route_config.specs.declared.route.Route.{Route}
use Rattle.access_rules.specs.declared.who.Who.TheVariants.{Anonymous}
use Rattle.access_rules.specs.Denials.{first_denial}
use Rattle.cql_map.specs.Bib1.{bib1_attributes}
use Rattle.cql_map.specs.declared.fault.MapFault.{MapFault}
use Rattle.cql_map.specs.Faults.{all_faults}
use Rattle.cql_map.specs.Mapped.{mapped}
use Rattle.sru_request.specs.declared.query.SruQuery.{SruQuery}
use Rattle.sru_rules.specs.declared.retrieval.Retrieval.{Retrieval}
use Rattle.sru_rules.specs.Diagnostics.{query_syntax_error, query_feature_unsupported, not_mapped, of_target}
use Rattle.sru_rules.specs.Reading.{CqlText, broken, deep, parsed}

-- ---- the query

-- a query of type 1 has too many nodes or levels, or costs too much
abbrev pub is_too_large : rpn.Tree → Bool
is_too_large root =
    nat_lt most_query_nodes (tree_size root)
    || (nat_lt most_query_depth (tree_depth root) || nat_lt most_query_cost (tree_cost root))

-- a query of type 1 within the limits; a tree without a fault has a mapping
abbrev pub within_limits : (version : List ℕ) → Option rpn.Tree → Result RpnQuery SruDiag
within_limits version None = Err (query_feature_unsupported version)
within_limits version (Some root) =
    if is_too_large root then Err (query_feature_unsupported version)
    else Ok (record { attr_set = bib1_attributes; root = root })

-- a tree's mapping, or the first of its faults
abbrev pub unless_faulty : (version : List ℕ) → List MapFault → Result RpnQuery SruDiag
    → Result RpnQuery SruDiag
unless_faulty version [] good = good
unless_faulty version (first ∷ more) good = Err (not_mapped version first)

-- the query of type 1 that a text is, or why it is none
abbrev pub rpn_of : (version : List ℕ) → List Index → CqlText → Result RpnQuery SruDiag
rpn_of version indexes (broken place) = Err (query_syntax_error version place)
rpn_of version indexes deep = Err (query_feature_unsupported version)
rpn_of version indexes (parsed tree) =
    unless_faulty version (all_faults indexes tree) (within_limits version (mapped indexes tree))

-- ---- access

-- a query, unless access is denied: 236, by the table from bib-1 to SRU
abbrev pub unless_denied : (version : List ℕ) → Option Diag → RpnQuery → Result RpnQuery SruDiag
unless_denied version None query = Ok query
unless_denied version (Some diag) query = Err (of_target version diag)

-- the query of a GET of a virtual database, which is nobody's: behind all its checks, whether
-- anyone may search it
abbrev pub open_query : Route → Database → (version : List ℕ) → Result RpnQuery SruDiag
    → Result RpnQuery SruDiag
open_query route database version (Err diag) = Err diag
open_query route database version (Ok query) =
    unless_denied version (first_denial route Anonymous (database.name ∷ [])) query

-- ---- the search

-- it asks for hits alone: it shows no record, whatever their count
abbrev pub search_work : Retrieval → Work
search_work retrieval = work.Search None retrieval.legs retrieval.query 0 1 0 None None None 0

-- ---- the fetch

-- the record syntax XML
abbrev pub xml : List ℕ
xml = 1 ∷ 2 ∷ 840 ∷ 10003 ∷ 5 ∷ 109 ∷ 10 ∷ []

-- the element set name of the schema that is asked for
abbrev pub element_of : List Schema → SruQuery → Option (List ℕ)
element_of schemas asked = option_map (λ schema. schema.element) (slice_get schemas asked.schema)

-- how many records are fetched of so many: those from the first that is asked for on, within the
-- maximum
abbrev pub fetched_count : SruQuery → (count : ℕ) → ℕ
fetched_count asked count = min asked.maximum (count + 1 - asked.start)

-- the records that are fetched from a result set with these hits
abbrev pub fetch_work : List Schema → Retrieval → (hits : List ℕ) → Work
fetch_work schemas retrieval hits =
    work.Fetch None retrieval.legs retrieval.query hits retrieval.asked.start
    (fetched_count retrieval.asked (total hits)) (Some xml) (element_of schemas retrieval.asked)

-- What a GET searches for is within the bounds of works, and both its works can begin.
use Rattle.std.proofs.Common.{◌≡◌, ◌≤◌, ◌+◌, ◌-◌, ◌==◌, ◌||◌, ◌&&◌, ℕ, zero, suc, Bool, true, false, List, [], ◌∷◌, length, cond, min, max, find, slice_get, option_map, codes, Option, Some, None, Result, Ok, Err, refl, ap, subst, arith, All}
use Rattle.std.specs.Prelude.{nat_lt, nat_le}
use Rattle.std.specs.List.{AllByRecursion}
use Rattle.std.specs.Option.{option_and_then}
use Rattle.std.specs.Str.{str_eq_ignore_ascii_case}
use Rattle.std.proofs.lemmas.Bool.{leb-true, le-ltb, ltb-false}
use Rattle.std.proofs.Math.Nat.{min-le_left, min-le_right}
use Rattle.std.proofs.lemmas.List.Elements.{recursion_from_All, All-get_or}
use Rattle.std.proofs.lemmas.Option.{get_or_from_slice_get, slice_get_within}
use Rattle.z_types.specs.Bounds.{most_legs, most_name_octets, most_number, most_query_nodes, most_query_depth, most_query_cost}
use Rattle.z_types.specs.MergedOrder.{total}
use Rattle.z_types.specs.QueryMeasures.{tree_depth, tree_cost}
use Rattle.z_types.specs.Tree as rpn
use Rattle.z_types.specs.Tree.{tree_size}
use Rattle.z_types.specs.declared.diagnostic.Diag.{Diag}
use Rattle.z_types.specs.declared.query.RpnQuery.{RpnQuery}
use Rattle.z_types.specs.declared.schemas.Schema.{Schema}
use Rattle.z_types.specs.declared.sru.SruAnswer.{SruAnswer}
use Rattle.z_types.specs.declared.sru.SruDiag.{SruDiag}
use Rattle.z_types.specs.declared.work.Work.{Work}
use Rattle.z_sets.specs.Askable.{IsAskableQuery}
use Rattle.route_config.specs.Lookup.{database_named}
use Rattle.route_config.specs.Sound.{IsSound, IsDatabase, IsIndex, IsSchema}
use Rattle.route_config.specs.declared.route.Database.{Database}
use Rattle.route_config.specs.declared.route.Index.{Index}
use Rattle.route_config.specs.declared.route.Route.{Route}
use Rattle.access_rules.specs.declared.who.Who.TheVariants.{Anonymous}
use Rattle.access_rules.specs.Denials.{first_denial}
use Rattle.limit_rules.specs.Limits.{most_records}
use Rattle.gateway_rules.specs.Checks.{is_too_long}
use Rattle.cql_map.specs.Bib1.{bib1_attributes}
use Rattle.cql_map.specs.declared.fault.MapFault.{MapFault}
use Rattle.cql_map.specs.Faults.{all_faults}
use Rattle.cql_map.specs.Mapped.{mapped}
use Rattle.sru_request.specs.Choices.{is_absent, are_digits, in_range, start_in}
use Rattle.sru_request.specs.Name.{name_of}
use Rattle.sru_request.specs.declared.head.Get.{Get}
use Rattle.sru_request.specs.declared.query.SruQuery.{SruQuery}
use Rattle.z_types.specs.Digits.{number_after}
use Rattle.sru_request.specs.Parameters.{parameters_of, value_of}
use Rattle.sru_rules.specs.declared.retrieval.Retrieval.{Retrieval}
use Rattle.sru_rules.specs.Course.{IsGetOf}
use Rattle.sru_rules.specs.Asking.{is_too_large, within_limits, unless_faulty, rpn_of, unless_denied, open_query, fetched_count, fetch_work}
use Rattle.sru_rules.specs.Laws.{GetIsRetrieval, SearchCanBegin, FetchCanBegin}
use Rattle.sru_rules.specs.Reading.{CqlText, broken, deep, parsed, Reading, refused, taken}
use Rattle.sru_rules.specs.Run.{searches, due, due_by}
use Rattle.sru_rules.specs.Settling.{answered, fetches, is_out_of_range}
use Rattle.sru_rules.specs.steps.Works.{IsRetrieval}
use Rattle.sru_rules.proofs.Mapped.{HaveNumbers, IsPlainFound, mapped_plain}

-- ---- the legs

-- what holds of each item holds of the one that is found
found_one : {X : Type 0} (P : X → Type 0) (test : Bool) (first : X) (rest : Option X) (x : X) → P first
    → (rest ≡ Some x → P x) → cond test (Some first) rest ≡ Some x → P x
found_one P true first rest x h k is = let same : first ≡ x = cc in subst P same h
found_one P false first rest x h k is = k is

found_holds : {X : Type 0} (P : X → Type 0) (test : X → Bool) (xs : List X) (x : X) → AllByRecursion P xs
    → find test xs ≡ Some x → P x
found_holds P test [] x each is = absurd cc
found_holds P test (first ∷ xs) x each is =
    found_one P (test first) first (find test xs) x each.0 (found_holds P test xs x each.1) is

few_legs : (route : Route) (name : Option (List ℕ)) (database : Database) → IsSound route
    → option_and_then (database_named route) name ≡ Some database → length database.legs ≤ most_legs
few_legs route None database sound is = absurd cc
few_legs route (Some name) database sound is =
    (found_holds IsDatabase (λ (d : Database). str_eq_ignore_ascii_case d.name name) route.databases database
    (recursion_from_All IsDatabase route.databases sound.items.databases) is).1.1

-- ---- the query

all_small : (a b c : Bool) → (a || (b || c)) ≡ false → (a ≡ false) × (b ≡ false) × (c ≡ false)
all_small true b c h = absurd cc
all_small false true c h = absurd cc
all_small false false true h = absurd cc
all_small false false false h = (refl, refl, refl)

one_of_limits : (large : Bool) (diag : SruDiag) (good query : RpnQuery) → cond large (Err diag) (Ok good) ≡ Ok query
    → (large ≡ false) × (good ≡ query)
one_of_limits true diag good query h = absurd cc
one_of_limits false diag good query h = (refl, cc)

askable_within : (version : List ℕ) (found : Option rpn.Tree) (query : RpnQuery) → IsPlainFound found
    → within_limits version found ≡ Ok query → IsAskableQuery query
askable_within version None query plain h = absurd cc
askable_within version (Some root) query plain h =
    let is = one_of_limits (is_too_large root) _ (record { attr_set = bib1_attributes; root = root }) query h in
    let small = all_small (nat_lt most_query_nodes (tree_size root)) (nat_lt most_query_depth (tree_depth root))
    (nat_lt most_query_cost (tree_cost root)) is.0 in
    subst IsAskableQuery is.1 (record {
      plain = plain;
      small = ltb-false most_query_nodes (tree_size root) small.0;
      shallow = ltb-false most_query_depth (tree_depth root) small.1;
      cheap = ltb-false most_query_cost (tree_cost root) small.2;
    })

askable_unless : (version : List ℕ) (faults : List MapFault) (found : Option rpn.Tree) (query : RpnQuery)
    → IsPlainFound found → unless_faulty version faults (within_limits version found) ≡ Ok query → IsAskableQuery query
askable_unless version [] found query plain h = askable_within version found query plain h
askable_unless version (first ∷ more) found query plain h = absurd cc

askable : (version : List ℕ) (indexes : List Index) (text : CqlText) (query : RpnQuery) → HaveNumbers indexes
    → rpn_of version indexes text ≡ Ok query → IsAskableQuery query
askable version indexes (broken place) query each h = absurd cc
askable version indexes deep query each h = absurd cc
askable version indexes (parsed tree) query each h =
    askable_unless version (all_faults indexes tree) (mapped indexes tree) query (mapped_plain indexes tree each) h

have_numbers : (indexes : List Index) → AllByRecursion IsIndex indexes → HaveNumbers indexes
have_numbers [] h = tt
have_numbers (index ∷ indexes) h = (h.0.1, have_numbers indexes h.1)

-- ---- the records

number_from : (at_most at_least : Bool) (least number n : ℕ) → (at_least ≡ true → least ≤ number)
    → cond (at_most && at_least) (Some number) None ≡ Some n → least ≤ n
number_from true true least number n k h = let e : number ≡ n = cc in omega (arith, e, k refl)
number_from true false least number n k h = absurd cc
number_from false at_least least number n k h = absurd cc

default_from : (absent digits : Bool) (least default n : ℕ) (read : Option ℕ) → least ≤ default
    → (read ≡ Some n → least ≤ n) → cond absent (Some default) (cond digits read None) ≡ Some n → least ≤ n
default_from true digits least default n read h k is = let e : default ≡ n = cc in omega (arith, e, h)
default_from false true least default n read h k is = k is
default_from false false least default n read h k is = absurd cc

start_from_one : (value : List ℕ) (n : ℕ) → start_in value ≡ Some n → 1 ≤ n
start_from_one value n is =
    default_from (is_absent value) (are_digits value) 1 1 n (in_range 1 (number_after 0 value)) (omega arith)
    (number_from (nat_le (number_after 0 value) most_number) (nat_le 1 (number_after 0 value)) 1 (number_after 0 value) n
    (λ h. leb-true 1 (number_after 0 value) h))
    is

most_of : (read : Option ℕ) (n : ℕ) → option_map (λ number. min number 100) read ≡ Some n → n ≤ most_records
most_of None n is = absurd cc
most_of (Some number) n is = let e : min number 100 ≡ n = cc in omega (arith, e, min-le_right number 100)

-- ---- a GET

-- a query that is open was read so
opened : (version : List ℕ) (denial : Option Diag) (query found : RpnQuery) → unless_denied version denial query ≡ Ok found → query ≡ found
opened version None query found h = cc
opened version (Some diag) query found h = absurd cc

read_so : (route : Route) (database : Database) (version : List ℕ) (read : Result RpnQuery SruDiag) (query : RpnQuery)
    → open_query route database version read ≡ Ok query → read ≡ Ok query
read_so route database version (Err diag) query h = absurd cc
read_so route database version (Ok found) query h =
    ap Ok (opened version (first_denial route Anonymous (database.name ∷ [])) found query h)

of_query : (route : Route) (database : Database) (asked : SruQuery) (read : Result RpnQuery SruDiag) (retrieval : Retrieval)
    → length database.legs ≤ most_legs → 1 ≤ asked.start → asked.maximum ≤ most_records
    → ((query : RpnQuery) → read ≡ Ok query → IsAskableQuery query) → due_by database asked read ≡ searches retrieval
    → IsRetrieval retrieval
of_query route database asked (Err diag) retrieval legs start maximum may is = absurd cc
of_query route database asked (Ok query) retrieval legs start maximum may is =
    let same : record { legs = database.legs; asked = asked; query = query } ≡ retrieval = cc in
    subst IsRetrieval same (record {
      few_legs = legs;
      askable = may query refl;
      from_one = start;
      few_records = maximum;
    })

of_reading : (route : Route) (get : Get) (database : Database) (reading : Reading) (retrieval : Retrieval) → IsSound route
    → IsGetOf route get database reading → due route database reading ≡ searches retrieval → IsRetrieval retrieval
of_reading route get database (refused diag) retrieval sound has is = absurd cc
of_reading route get database (taken asked text) retrieval sound has is =
    let fields = has.is_reading.0.is in
    let read = rpn_of asked.version route.indexes text in
    of_query route database asked (open_query route database asked.version read) retrieval
    (few_legs route (name_of get.path) database sound has.found)
    (start_from_one (value_of (codes "startRecord") (parameters_of get.query)) asked.start fields.start)
    (most_of _ asked.maximum fields.maximum)
    (λ query found. askable asked.version route.indexes text query
    (have_numbers route.indexes (recursion_from_All IsIndex route.indexes sound.items.indexes))
    (read_so route database asked.version read query found))
    is

pub get_is_retrieval : GetIsRetrieval
get_is_retrieval = of_reading

-- ---- the works

pub search_can_begin : SearchCanBegin
search_can_begin retrieval is = ((is.few_legs, omega arith), (is.askable, refl, refl, tt))

-- a fetch follows where neither answer comes first
follows : (behind nothing : Bool) (a b : SruAnswer) (hits : List ℕ) (x y : Work)
    → cond behind (answered a) (cond nothing (answered b) (fetches hits x)) ≡ fetches hits y
    → (behind ≡ false) × (nothing ≡ false)
follows true nothing a b hits x y is = absurd cc
follows false true a b hits x y is = absurd cc
follows false false a b hits x y is = (refl, refl)

schema_short : (schemas : List Schema) (asked : SruQuery) (found : Option Schema) → slice_get schemas asked.schema ≡ found
    → All IsSchema schemas → is_too_long (option_map (λ schema. schema.element) found) ≡ false
schema_short schemas asked None is each = refl
schema_short schemas asked (Some schema) is each =
    let own : IsSchema schema =
    subst IsSchema (get_or_from_slice_get schemas asked.schema schema schema is)
    (All-get_or IsSchema schemas asked.schema schema (slice_get_within schemas asked.schema schema is) each) in
    le-ltb most_name_octets (length schema.element) (omega (arith, own.2.1))

-- so many records from the first on
some_more : (n : ℕ) → (n == 0) ≡ false → 1 ≤ n
some_more zero h = absurd cc
some_more (suc n) h = omega arith

within_count : (start maximum count : ℕ) → start ≤ max count 1 → 1 ≤ start → (min maximum (count + 1 - start) == 0) ≡ false
    → (1 ≤ min maximum (count + 1 - start)) × (start + min maximum (count + 1 - start) ≤ count + 1)
within_count start maximum count inside one some =
    let least = some_more (min maximum (count + 1 - start)) some in
    (least, omega (arith, least, min-le_right maximum (count + 1 - start)))

pub fetch_can_begin : FetchCanBegin
fetch_can_begin route retrieval hits sound is each has =
    let asked = retrieval.asked in
    let neither = follows (is_out_of_range asked (total hits)) (fetched_count asked (total hits) == 0) _ _ hits
    (fetch_work route.schemas retrieval hits) (fetch_work route.schemas retrieval hits) has in
    let inside = ltb-false (max (total hits) 1) asked.start neither.0 in
    let counts = within_count asked.start asked.maximum (total hits) inside is.from_one neither.1 in (
      (is.few_legs, each, is.from_one, counts.0, omega (arith, is.few_records, min-le_left asked.maximum (total hits + 1 - asked.start)), counts.1),
      (is.askable, schema_short route.schemas asked (slice_get route.schemas asked.schema) refl sound.items.schemas, tt),
    )

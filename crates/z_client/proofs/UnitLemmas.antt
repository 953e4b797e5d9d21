-- What is sent is a unit, and the request that was meant (ANSI/NISO Z39.50-2003, 3.2.1 to 3.2.3 and 3.2.8)
use Rattle.std.proofs.Common.{arith, ◌≡◌, ◌^◌, ◌<◌, ℕ, pos, List, [], ◌∷◌, Option, None, Some, Result, Ok, Err, IfOk, true, sym, subst}
use Rattle.std.specs.Prelude.{IfSome}
use Rattle.std.specs.List.{AllByRecursion}
use Rattle.z_types.specs.Bounds.{most_unit_octets, most_query_cost}
use Rattle.z_types.specs.Numbers.{IsNumber, HasNumbers}
use Rattle.z_types.specs.Tree.{Tree, leaf, operand, and, or, and_not}
use Rattle.z_types.specs.declared.ask.Ask.{Ask}
use Rattle.z_types.specs.declared.ask.Ask.TheVariants.{Search, Present, Scan}
use Rattle.z_types.specs.declared.key.SetKey.{SetKey}
use Rattle.z_types.specs.declared.query.Attr.{Attr}
use Rattle.z_types.specs.declared.requests.Asked.TheVariants.{Good}
use Rattle.z_types.specs.declared.requests.Init.{Init}
use Rattle.z_types.specs.declared.requests.Present.{Present as PresentFields}
use Rattle.z_types.specs.declared.requests.Request.{Request}
use Rattle.z_types.specs.declared.requests.Search.{Search as SearchFields}
use Rattle.z_types.specs.declared.scan.ScanAsk.{ScanAsk}
use Rattle.z_ber.specs.Values.{IsOid}
use Rattle.unit_forms.specs.Fields.{object_identifier, octets_field, number_field, identifier_field, tree_field, optional}
use Rattle.unit_forms.specs.Requests.{spell_request, init_fields, init_request_fields, search_fields, present_fields, scan_ask_fields, scan_fields, database_names, element_name_field, composition_field}
use Rattle.unit_forms.specs.Tags as tag
use Rattle.z_laws.specs.Laws.{WrittenRequestsAreUnits, WrittenRequestsAreRead}
use Rattle.z_laws.specs.Readable.{IsReadable, IsReadableAttr, IsReadableTree, IsReadableQuery, IsReadableAsk}
use Rattle.z_laws.specs.Shallow.{IsShallow}
use Rattle.unit_forms.specs.Logins.{IsLoginIf}
use Rattle.gw_outside.specs.Asks.{IsShort, AreFewShort, HasNoSet, MaySearch, MayPresent, MayScan, MayAsk}
use Rattle.gw_outside.specs.Sessions.{Made}
use Rattle.gw_outside.specs.Wires.{IsRequestUnit}
use Rattle.z_client.specs.Typed.{IsTypedAttr, IsTypedTree, IsTypedQuery, IsTypedScan, IsTypedAsk}
use Rattle.z_client.specs.Units.{init_request, request_of, IsAskUnit}
use Rattle.z_client.proofs.QuerySizes.{plus_within, query_within}
use Rattle.z_client.proofs.SizeLemmas.{IsWithin, wider, joined, nothing, each, octets_within, tree_within, number_within, integer_within, boolean_within, bits_within, identifier_within, object_identifier_within, optional_within}

-- a request that is read from its written form, on few levels and of few octets, is what its written form is a unit of
written : WrittenRequestsAreUnits → WrittenRequestsAreRead → (request : Request) → IsReadable request → IsShallow request → IsWithin most_unit_octets (spell_request request)
    → IsRequestUnit (spell_request request) request
written units read request readable shallow small =
    let unit = units request shallow small.few in
    (unit.0, unit.1, read request unit.0 readable unit.1)

-- ---- the Init

init_readable : (login : Option (List ℕ)) → IsLoginIf login → IsReadable (init_request login)
init_readable login h = (
  record { versions = omega arith; options = omega arith; preferred = omega arith; exceptional = omega arith },
  h,
)

abbrev own_init : Option (List ℕ) → Init
own_init login = record {
  ref_id = None;
  versions = 7;
  options = 16515;
  preferred = most_unit_octets;
  exceptional = most_unit_octets;
  login = login;
}

shared_within : (login : Option (List ℕ)) → IsWithin 48 (init_fields (own_init login))
unfolding init_fields
shared_within login =
    let versions = bits_within tag.protocol_version 7 (omega arith) (omega arith) in
    let bits = bits_within tag.options 16515 (omega arith) (omega arith) in
    let preferred = number_within tag.preferred_message_size most_unit_octets (omega arith) (omega arith) in
    let exceptional = number_within tag.exceptional_record_size most_unit_octets (omega arith) (omega arith) in
    joined (joined (joined versions bits) preferred) exceptional

login_within : (login : Option (List ℕ)) → IsLoginIf login → IsWithin 4107 (optional (tree_field tag.id_authentication) login)
login_within None h = wider 4107 (omega arith) nothing
login_within (Some login) h = tree_within tag.id_authentication (omega arith) (omega arith) (record { few = h.few })

init_within : (login : Option (List ℕ)) → IsLoginIf login → IsWithin 4155 (init_request_fields (own_init login))
unfolding init_request_fields
init_within login h = joined (shared_within login) (login_within login h)

pub init_is_unit : {E : Type 0} (login : Option (List ℕ)) → IsLoginIf login → WrittenRequestsAreUnits → WrittenRequestsAreRead → (unit : Result (List ℕ) E) → IfOk unit (λ octets. octets ≡ spell_request (init_request login))
    → IfOk unit (λ octets. IsRequestUnit octets (init_request login))
init_is_unit login h units read (Ok unit) e =
    let small = wider most_unit_octets (omega arith) (tree_within tag.init_request (omega arith) (omega arith) (init_within login h)) in
    subst (λ octets. IsRequestUnit octets (init_request login)) (sym e) (written units read (init_request login) (init_readable login h) h small)
init_is_unit login h units read (Err why) e = tt

-- ---- what may be asked is read from its written form

attrs_readable : (attrs : List Attr) → AllByRecursion HasNumbers attrs → AllByRecursion IsTypedAttr attrs → AllByRecursion IsReadableAttr attrs
attrs_readable [] numbers typed = tt
attrs_readable (attr ∷ attrs) numbers typed =
    (record { set = typed.0; kind = numbers.0.0; value = numbers.0.1 }, attrs_readable attrs numbers.1 typed.1)

tree_readable : (tree : Tree) → HasNoSet tree → IsTypedTree tree → IsReadableTree tree
tree_readable (leaf attrs term) numbers typed = (attrs_readable attrs numbers typed.0, typed.1)
tree_readable (operand name) numbers typed = tt
tree_readable (and l r) numbers typed = (tree_readable l numbers.0 typed.0, tree_readable r numbers.1 typed.1)
tree_readable (or l r) numbers typed = (tree_readable l numbers.0 typed.0, tree_readable r numbers.1 typed.1)
tree_readable (and_not l r) numbers typed = (tree_readable l numbers.0 typed.0, tree_readable r numbers.1 typed.1)

query_readable : (name : List ℕ) (key : SetKey) → MaySearch name key → IsTypedQuery key.query → IsReadableQuery key.query
query_readable name key may typed = (typed.attr_set, tree_readable key.query.root may.no_set typed.root)

scan_readable : (dbs : List (List ℕ)) (ask : ScanAsk) → MayScan dbs ask → IsTypedScan ask → IsReadableAsk ask
scan_readable dbs ask may typed = record {
  attr_set = typed.attr_set;
  attrs = attrs_readable ask.attrs may.attrs typed.attrs;
  term = typed.term;
  step = may.step;
  number = may.number;
  position = may.position;
}

ask_readable : (made : Made) (ask : Ask) → MayAsk made ask → IsTypedAsk ask → IsReadable (request_of ask)
ask_readable made (Search name key) may typed =
    record { small = omega arith; large = omega arith; medium = omega arith; syntax = tt; query = query_readable name key may typed }
ask_readable made (Present name first count syntax element) may typed =
    record { start = record { sfits = omega (arith, may.first_number) }; number = may.count_number; element = tt; syntax = typed }
ask_readable made (Scan dbs ask) may typed = scan_readable dbs ask may typed

-- ---- it stands on few levels

ask_shallow : (made : Made) (ask : Ask) → MayAsk made ask → IsShallow (request_of ask)
ask_shallow made (Search name key) may = omega (arith, may.shallow)
ask_shallow made (Present name first count syntax element) may = tt
ask_shallow made (Scan dbs ask) may = tt

-- ---- it has few octets

short_within : (number : ℕ) (name : List ℕ) → number < 2 ^ 31 → IsShort name → IsWithin 4107 (octets_field number name)
short_within number name few short = octets_within number few (omega arith) (record { few = short })

databases_within : (number : ℕ) (dbs : List (List ℕ)) → number < 2 ^ 31 → AreFewShort dbs → IsWithin 65723 (tree_field number (database_names dbs))
databases_within number dbs small few =
    let names = each IsShort (octets_field tag.database_name) 4107 (λ name short. short_within tag.database_name name (omega arith) short) dbs few.each in
    tree_within number small (omega arith) (wider 65712 (omega (arith, few.few)) names)

abbrev own_search : List ℕ → SetKey → SearchFields
own_search name key = record {
  ref_id = None;
  small = 0;
  large = 1;
  medium = 0;
  replace = true;
  set_name = name;
  dbs = key.dbs;
  small_element = None;
  medium_element = None;
  syntax = None;
  query = Good key.query;
}

search_within : (name : List ℕ) (key : SetKey) → MaySearch name key → IsReadableQuery key.query → IsWithin 970058 (search_fields (own_search name key))
unfolding search_fields
search_within name key may readable =
    let small = number_within tag.small_set_upper_bound 0 (omega arith) (omega arith) in
    let large = number_within tag.large_set_lower_bound 1 (omega arith) (omega arith) in
    let medium = number_within tag.medium_set_present_number 0 (omega arith) (omega arith) in
    let replace = boolean_within tag.replace_indicator true (omega arith) in
    let set_name = short_within tag.result_set_name name (omega arith) may.short in
    let dbs = databases_within tag.database_names key.dbs (omega arith) may.databases in
    let query = tree_within tag.query (omega arith) (omega arith) (query_within key.query may.no_set readable may.cheap) in
    let front = joined (joined (joined (joined (joined small large) medium) replace) set_name) dbs in
    joined (joined (joined (joined front nothing) nothing) nothing) query

abbrev own_present : List ℕ → ℕ → ℕ → Option (List ℕ) → Option (List ℕ) → PresentFields
own_present name first count syntax element =
    record { ref_id = None; set_name = name; start = pos first; number = count; element = Good element; syntax = syntax }

element_within : (element : Option (List ℕ)) → IfSome element IsShort → IsWithin 4118 (composition_field (Good element))
element_within element short =
    optional_within IsShort (element_name_field tag.record_composition_simple) element
    (λ name few. tree_within tag.record_composition_simple (omega arith) (omega arith) (short_within tag.generic_element_set_name name (omega arith) few)) short

present_within : (made : Made) (name : List ℕ) (first count : ℕ) (syntax element : Option (List ℕ)) → MayPresent made name first count element → IfSome syntax IsOid
    → IsWithin 8420 (present_fields (own_present name first count syntax element))
unfolding present_fields
present_within made name first count syntax element may valid =
    let set_name = short_within tag.result_set_id name (omega arith) may.short in
    let start = integer_within tag.result_set_start_point (pos first) (omega arith) (record { sfits = omega (arith, may.first_number) }) in
    let number = number_within tag.number_of_records_requested count (omega arith) may.count_number in
    let own = optional_within IsOid (identifier_field tag.preferred_record_syntax) syntax (λ arcs is. identifier_within tag.preferred_record_syntax arcs (omega arith) is) valid in
    joined (joined (joined (joined set_name start) number) (element_within element may.short_element)) own

scan_ask_within : (dbs : List (List ℕ)) (ask : ScanAsk) → MayScan dbs ask → IsReadableAsk ask → IsWithin 900209 (scan_ask_fields ask)
unfolding scan_ask_fields
scan_ask_within dbs ask may readable =
    let set = optional_within IsOid object_identifier ask.attr_set object_identifier_within readable.attr_set in
    let start = wider most_query_cost (omega (arith, may.cheap)) (plus_within ask.attrs ask.term readable.attrs readable.term (omega (arith, may.cheap))) in
    let index = tree_within tag.term_list_and_start_point (omega arith) (omega arith) start in
    let step = optional_within IsNumber (number_field tag.step_size) ask.step (λ n few. number_within tag.step_size n (omega arith) few) readable.step in
    let number = number_within tag.number_of_terms_requested ask.number (omega arith) readable.number in
    let position =
    optional_within IsNumber (number_field tag.preferred_position_in_response) ask.position
    (λ n few. number_within tag.preferred_position_in_response n (omega arith) few) readable.position in
    joined (joined (joined (joined set index) step) number) position

scan_within : (dbs : List (List ℕ)) (ask : ScanAsk) → MayScan dbs ask → IsReadableAsk ask → IsWithin 965932 (scan_fields (record { ref_id = None; dbs = dbs; ask = Good ask }))
unfolding scan_fields
scan_within dbs ask may readable =
    joined (databases_within tag.scan_database_names dbs (omega arith) may.databases) (scan_ask_within dbs ask may readable)

ask_within : (made : Made) (ask : Ask) → MayAsk made ask → IsTypedAsk ask → IsWithin most_unit_octets (spell_request (request_of ask))
ask_within made (Search name key) may typed =
    wider most_unit_octets (omega arith) (tree_within tag.search_request (omega arith) (omega arith) (search_within name key may (query_readable name key may typed)))
ask_within made (Present name first count syntax element) may typed =
    wider most_unit_octets (omega arith) (tree_within tag.present_request (omega arith) (omega arith) (present_within made name first count syntax element may typed))
ask_within made (Scan dbs ask) may typed =
    wider most_unit_octets (omega arith) (tree_within tag.scan_request (omega arith) (omega arith) (scan_within dbs ask may (scan_readable dbs ask may typed)))

-- ---- so its written form is its unit

ask_written : WrittenRequestsAreUnits → WrittenRequestsAreRead → (ask : Ask) → IsTypedAsk ask → IsAskUnit ask (spell_request (request_of ask))
ask_written units read ask typed =
    λ made may. written units read (request_of ask) (ask_readable made ask may typed) (ask_shallow made ask may) (ask_within made ask may typed)

pub ask_is_unit : {E : Type 0} → WrittenRequestsAreUnits → WrittenRequestsAreRead → (ask : Ask) → IsTypedAsk ask → (unit : Result (List ℕ) E)
    → IfOk unit (λ octets. octets ≡ spell_request (request_of ask)) → IfOk unit (λ octets. IsAskUnit ask octets)
ask_is_unit units read ask typed (Ok unit) e = subst (λ octets. IsAskUnit ask octets) (sym e) (ask_written units read ask typed)
ask_is_unit units read ask typed (Err why) e = tt

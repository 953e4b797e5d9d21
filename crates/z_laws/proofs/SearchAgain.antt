-- A Search that is written is read again.
use Rattle.std.proofs.Common.{◌≡◌, ℕ, pos, List, Option, None, Some, Ok, lit<, ap, refl}
use Rattle.z_types.specs.Numbers.{IsNumber}
use Rattle.z_types.specs.declared.query.RpnQuery.{RpnQuery}
use Rattle.z_types.specs.declared.requests.Asked.{Asked}
use Rattle.z_types.specs.declared.requests.Asked.TheVariants.{Good, Bad}
use Rattle.z_types.specs.declared.requests.Search.{Search}
use Rattle.z_ber.specs.Element.{Forest, none, leaf, branch}
use Rattle.z_ber.specs.Written.{int_octets, bool_octets, oid_octets}
use Rattle.unit_forms.specs.Fields.{primitive, constructed}
use Rattle.unit_forms.specs.Query.{asked_octets}
use Rattle.unit_forms.specs.Requests.{database_names, search_fields}
use Rattle.unit_forms.specs.Reading.ElementNames.{names_of}
use Rattle.unit_forms.specs.Reading.Queries.{query_in}
use Rattle.unit_forms.specs.Reading.Rows.{octets_of, number_of, truth_of, oid_of, required, optional, within}
use Rattle.unit_forms.specs.Reading.SearchRequest.{databases_of, name_in, with_names, bounds_in, named_in, wanted_in, as_search, search_in}
use Rattle.z_laws.specs.Readable.{IsReadableSearch}
use Rattle.z_laws.proofs.Beginning.{Spells}
use Rattle.z_laws.proofs.Forests.{joined}
use Rattle.z_laws.proofs.Lookup.{maybe_leaf, or_else-none, first_of-joined, first_of-maybe_leaf, first_of-maybe_branch}
use Rattle.z_laws.proofs.Parts.{◌⊕◌, spells-primitive, spells-constructed, spells-maybe, number_once, truth_once, octets_if, oid_if}
use Rattle.z_laws.proofs.NamesAgain.{databases_forest, spells-databases, databases_in-again, maybe_name, spells-maybe_name, name_asked, names_if}
use Rattle.z_laws.proofs.QueryAgain.{asked_forest, spells-asked, query_in-again}

-- the numbers, the indicator and the name of a Search
abbrev bounds_forest : Search → Forest
bounds_forest search =
    joined (joined (joined (joined (joined (maybe_leaf (primitive 2) (λ x. x) search.ref_id)
    (leaf (primitive 13) (int_octets (pos search.small)) none))
    (leaf (primitive 14) (int_octets (pos search.large)) none))
    (leaf (primitive 15) (int_octets (pos search.medium)) none))
    (leaf (primitive 16) (bool_octets search.replace) none))
    (leaf (primitive 17) search.set_name none)

-- the elements of a Search
abbrev pub search_forest : Search → Forest
search_forest search =
    joined (joined (joined (joined (joined (bounds_forest search)
    (branch (constructed 18) (database_names search.dbs) (databases_forest search.dbs) none))
    (maybe_name 100 search.small_element))
    (maybe_name 101 search.medium_element))
    (maybe_leaf (primitive 104) oid_octets search.syntax))
    (branch (constructed 21) (asked_octets search.query) (asked_forest search.query) none)

pub spells-search_fields : (search : Search) → Spells (search_fields search) (search_forest search)
unfolding search_fields
spells-search_fields search =
    spells-maybe 2 (λ x. x) search.ref_id (lit< tt) ⊕ spells-primitive 13 _ (lit< tt) ⊕ spells-primitive 14 _ (lit< tt) ⊕ spells-primitive 15 _ (lit< tt) ⊕ spells-primitive 16 _ (lit< tt) ⊕ spells-primitive 17 search.set_name (lit< tt)
    ⊕ spells-databases 18 search.dbs (lit< tt) ⊕ spells-maybe_name 100 search.small_element (lit< tt) ⊕ spells-maybe_name 101 search.medium_element (lit< tt) ⊕ spells-maybe 104 oid_octets search.syntax (lit< tt)
    ⊕ spells-constructed 21 _ (asked_forest search.query) (lit< tt) (spells-asked search.query)

search-ref_id : (search : Search) → optional 2 octets_of (search_forest search) ≡ Ok search.ref_id
search-ref_id search = simp (first_of-joined, first_of-maybe_leaf, first_of-maybe_branch, or_else-none) (octets_if 2 search.ref_id)

search-small : (search : Search) → IsNumber search.small → required 13 number_of (search_forest search) ≡ Ok search.small
search-small search small = simp (first_of-joined, first_of-maybe_leaf, first_of-maybe_branch) (number_once 13 search.small small)

search-large : (search : Search) → IsNumber search.large → required 14 number_of (search_forest search) ≡ Ok search.large
search-large search small = simp (first_of-joined, first_of-maybe_leaf, first_of-maybe_branch) (number_once 14 search.large small)

search-medium : (search : Search) → IsNumber search.medium → required 15 number_of (search_forest search) ≡ Ok search.medium
search-medium search small = simp (first_of-joined, first_of-maybe_leaf, first_of-maybe_branch) (number_once 15 search.medium small)

search-replace : (search : Search) → required 16 truth_of (search_forest search) ≡ Ok search.replace
search-replace search = simp (first_of-joined, first_of-maybe_leaf, first_of-maybe_branch) (truth_once 16 search.replace)

search-set_name : (search : Search) → required 17 octets_of (search_forest search) ≡ Ok search.set_name
search-set_name search = simp (first_of-joined, first_of-maybe_leaf, first_of-maybe_branch)

search-dbs : (search : Search) → required 18 databases_of (search_forest search) ≡ Ok search.dbs
search-dbs search = simp (first_of-joined, first_of-maybe_leaf, first_of-maybe_branch) (databases_in-again search.dbs)

search-small_element : (search : Search) → optional 100 names_of (search_forest search) ≡ Ok (name_asked search.small_element)
search-small_element search = simp (first_of-joined, first_of-maybe_leaf, first_of-maybe_branch, or_else-none) (names_if 100 search.small_element)

search-medium_element : (search : Search) → optional 101 names_of (search_forest search) ≡ Ok (name_asked search.medium_element)
search-medium_element search = simp (first_of-joined, first_of-maybe_leaf, first_of-maybe_branch, or_else-none) (names_if 101 search.medium_element)

search-syntax : (search : Search) → IsReadableSearch search → optional 104 oid_of (search_forest search) ≡ Ok search.syntax
search-syntax search h = simp (first_of-joined, first_of-maybe_leaf, first_of-maybe_branch, or_else-none) (oid_if (primitive 104) search.syntax refl h.syntax)

search-query : (search : Search) → IsReadableSearch search → required 21 (within query_in) (search_forest search) ≡ Ok search.query
search-query search h = simp (first_of-joined, first_of-maybe_leaf, first_of-maybe_branch) (query_in-again search.query h.query)

bounds_in-again : (search : Search) → IsReadableSearch search → bounds_in (search_forest search) ≡ Ok (search.ref_id, (search.small, (search.large, search.medium)))
unfolding bounds_in
bounds_in-again search h =
    rw (search-ref_id search, search-small search h.small, search-large search h.large, search-medium search h.medium) refl

named_in-again : (search : Search) → named_in (search_forest search) ≡ Ok (search.replace, (search.set_name, search.dbs))
unfolding named_in
named_in-again search = rw (search-replace search, search-set_name search, search-dbs search) refl

wanted_in-again : (search : Search) → IsReadableSearch search → wanted_in (search_forest search) ≡ Ok (name_asked search.small_element, (name_asked search.medium_element, (search.syntax, search.query)))
unfolding wanted_in
wanted_in-again search h =
    rw (search-small_element search, search-medium_element search, search-syntax search h, search-query search h) refl

name_in-again : (name : Option (List ℕ)) → name_in (name_asked name) ≡ name
name_in-again None = refl
name_in-again (Some name) = refl

with_names-again : (name : Option (List ℕ)) (asked : Asked RpnQuery) → with_names (name_asked name) asked ≡ asked
with_names-again None (Good query) = refl
with_names-again (Some name) (Good query) = refl
with_names-again None (Bad diag) = refl
with_names-again (Some name) (Bad diag) = refl

-- the Search that its parts make
search-made : (search : Search) → as_search ((search.ref_id, (search.small, (search.large, search.medium))), ((search.replace, (search.set_name, search.dbs)), (name_asked search.small_element, (name_asked search.medium_element, (search.syntax, search.query))))) ≡ search
search-made search =
    rw (name_in-again search.small_element, name_in-again search.medium_element, with_names-again search.small_element search.query, with_names-again search.medium_element search.query) refl

pub search_in-again : (search : Search) → IsReadableSearch search → search_in (search_forest search) ≡ Ok search
unfolding search_in
search_in-again search h =
    rw (bounds_in-again search h, named_in-again search, wanted_in-again search h) (ap Ok (search-made search))

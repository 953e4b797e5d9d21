-- A Search as it is read (ANSI/NISO Z39.50-2003, SearchRequest).
use Rattle.std.specs.Prelude.{ℕ, List, Bool, Option, Some, None, Result}
use Rattle.z_types.specs.declared.query.RpnQuery.{RpnQuery}
use Rattle.z_types.specs.declared.requests.Asked.{Asked}
use Rattle.z_types.specs.declared.requests.Asked.TheVariants.{Good, Bad}
use Rattle.z_types.specs.declared.requests.Search.{Search}
use Rattle.z_ber.specs.Element.{Forest}
use Rattle.unit_forms.specs.declared.refusal.Refusal.{Refusal}
use Rattle.unit_forms.specs.Reading.Answers.{◌⊗◌, read_as}
use Rattle.unit_forms.specs.Reading.Elements.{Field}
use Rattle.unit_forms.specs.Reading.ElementNames.{names_of}
use Rattle.unit_forms.specs.Reading.Queries.{query_in}
use Rattle.unit_forms.specs.Reading.Rows.{octets_of, number_of, truth_of, oid_of, context, required, optional, within, each_with}
use Rattle.unit_forms.specs.Tags as numbers

-- the names of databases, each a DatabaseName [105]
unfoldable pub databases_in : Forest → Result (List (List ℕ)) Refusal
databases_in elements = each_with (context numbers.database_name) octets_of elements

abbrev pub databases_of : Field → Result (List (List ℕ)) Refusal
databases_of field = within databases_in field

-- an element set name, where one is told that is served
abbrev pub name_in : Option (Asked (List ℕ)) → Option (List ℕ)
name_in None = None
name_in (Some (Good name)) = Some name
name_in (Some (Bad diag)) = None

-- element set names that are not served make the query so, where it is served itself
abbrev pub with_names : Option (Asked (List ℕ)) → Asked RpnQuery → Asked RpnQuery
with_names names (Bad diag) = Bad diag
with_names None (Good query) = Good query
with_names (Some (Good name)) (Good query) = Good query
with_names (Some (Bad diag)) (Good query) = Bad diag

-- referenceId [2] OPTIONAL, smallSetUpperBound [13], largeSetLowerBound [14],
-- mediumSetPresentNumber [15]
abbrev pub Bounds : Type 0
Bounds = Option (List ℕ) × (ℕ × (ℕ × ℕ))

unfoldable pub bounds_in : Forest → Result Bounds Refusal
bounds_in fields =
    optional numbers.reference_id octets_of fields
    ⊗ required numbers.small_set_upper_bound number_of fields
    ⊗ required numbers.large_set_lower_bound number_of fields
    ⊗ required numbers.medium_set_present_number number_of fields

-- replaceIndicator [16], resultSetName [17], databaseNames [18]
abbrev pub Named : Type 0
Named = Bool × (List ℕ × List (List ℕ))

unfoldable pub named_in : Forest → Result Named Refusal
named_in fields =
    required numbers.replace_indicator truth_of fields
    ⊗ required numbers.result_set_name octets_of fields
    ⊗ required numbers.database_names databases_of fields

-- smallSetElementSetNames [100] OPTIONAL, mediumSetElementSetNames [101] OPTIONAL,
-- preferredRecordSyntax [104] OPTIONAL, query [21]
abbrev pub Wanted : Type 0
Wanted = Option (Asked (List ℕ)) × (Option (Asked (List ℕ)) × (Option (List ℕ) × Asked RpnQuery))

unfoldable pub wanted_in : Forest → Result Wanted Refusal
wanted_in fields =
    optional numbers.small_set_element_set_names names_of fields
    ⊗ optional numbers.medium_set_element_set_names names_of fields
    ⊗ optional numbers.preferred_record_syntax oid_of fields
    ⊗ required numbers.query (within query_in) fields

abbrev pub as_search : Bounds × (Named × Wanted) → Search
as_search (
  (ref_id, (small, (large, medium))),
  ((replace, (set_name, dbs)), (small_names, (medium_names, (syntax, query)))),
) = record {
  ref_id = ref_id;
  small = small;
  large = large;
  medium = medium;
  replace = replace;
  set_name = set_name;
  dbs = dbs;
  small_element = name_in small_names;
  medium_element = name_in medium_names;
  syntax = syntax;
  query = with_names medium_names (with_names small_names query);
}

-- SearchRequest
unfoldable pub search_in : Forest → Result Search Refusal
search_in fields = read_as as_search (bounds_in fields ⊗ named_in fields ⊗ wanted_in fields)

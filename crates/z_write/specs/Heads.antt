-- For contracts alone: the first fields of units that have many (ANSI/NISO Z39.50-2003,
-- SearchRequest, PresentRequest and SearchResponse)
use Rattle.std.specs.Prelude.{ℕ, List, ◌++◌, Option}
use Rattle.z_types.specs.declared.requests.Search.{Search}
use Rattle.z_types.specs.declared.requests.Present.{Present}
use Rattle.unit_forms.specs.Fields.{octets_field, integer_field, number_field, boolean_field, tree_field, ref_id_field}
use Rattle.unit_forms.specs.Requests.{database_names}
use Rattle.unit_forms.specs.Tags as tag

-- of a SearchRequest, as far as the databases
abbrev pub search_head : Search → List ℕ
search_head search =
    ref_id_field search.ref_id
    ++ number_field tag.small_set_upper_bound search.small
    ++ number_field tag.large_set_lower_bound search.large
    ++ number_field tag.medium_set_present_number search.medium
    ++ boolean_field tag.replace_indicator search.replace
    ++ octets_field tag.result_set_name search.set_name
    ++ tree_field tag.database_names (database_names search.dbs)

-- of a PresentRequest, as far as the number of records
abbrev pub present_head : Present → List ℕ
present_head present =
    ref_id_field present.ref_id
    ++ octets_field tag.result_set_id present.set_name
    ++ integer_field tag.result_set_start_point present.start
    ++ number_field tag.number_of_records_requested present.number

-- of a SearchResponse, as far as the next position
abbrev pub search_reply_head : Option (List ℕ) → ℕ → ℕ → ℕ → List ℕ
search_reply_head ref_id count returned next =
    ref_id_field ref_id
    ++ number_field tag.result_count count
    ++ number_field tag.number_of_records_returned returned
    ++ number_field tag.next_result_set_position next

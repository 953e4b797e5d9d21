-- Requests as they are written (ANSI/NISO Z39.50-2003, InitializeRequest, SearchRequest,
-- PresentRequest, ScanRequest and Close)
use Rattle.std.specs.Prelude.{ℕ, List, [], ◌++◌, Option}
use Rattle.std.specs.List.{flat_map}
use Rattle.z_types.specs.declared.requests.Asked.{Asked}
use Rattle.z_types.specs.declared.requests.Asked.TheVariants.{Good, Bad}
use Rattle.z_types.specs.declared.requests.Init.{Init}
use Rattle.z_types.specs.declared.requests.Search.{Search}
use Rattle.z_types.specs.declared.requests.Present.{Present}
use Rattle.z_types.specs.declared.requests.Scan.{Scan}
use Rattle.z_types.specs.declared.requests.Close.{Close}
use Rattle.z_types.specs.declared.requests.Request.{Request}
use Rattle.z_types.specs.declared.requests.Request.TheVariants as request
use Rattle.z_types.specs.declared.scan.ScanAsk.{ScanAsk}
use Rattle.unit_forms.specs.Fields.{object_identifier, octets_field, integer_field, number_field, boolean_field, bits_field, identifier_field, tree_field, optional, ref_id_field}
use Rattle.unit_forms.specs.Query.{asked_octets, attributes_plus_term}
use Rattle.unit_forms.specs.Tags as tag

-- the fields that an InitializeRequest and its response share
unfoldable pub init_fields : Init → List ℕ
init_fields init =
    ref_id_field init.ref_id
    ++ bits_field tag.protocol_version init.versions
    ++ bits_field tag.options init.options
    ++ number_field tag.preferred_message_size init.preferred
    ++ number_field tag.exceptional_record_size init.exceptional

-- the fields of an InitializeRequest: the login, where there is one, is what idAuthentication has
-- in it
unfoldable pub init_request_fields : Init → List ℕ
init_request_fields init =
    init_fields init ++ optional (tree_field tag.id_authentication) init.login

-- names of databases
abbrev pub database_names : List (List ℕ) → List ℕ
database_names dbs = flat_map (octets_field tag.database_name) dbs

-- ElementSetNames, around a generic name
abbrev pub element_name_field : ℕ → List ℕ → List ℕ
element_name_field number name = tree_field number (octets_field tag.generic_element_set_name name)

-- the preferred record syntax
abbrev pub syntax_field : Option (List ℕ) → List ℕ
syntax_field syntax = optional (identifier_field tag.preferred_record_syntax) syntax

-- the fields of a SearchRequest
unfoldable pub search_fields : Search → List ℕ
search_fields search =
    ref_id_field search.ref_id
    ++ number_field tag.small_set_upper_bound search.small
    ++ number_field tag.large_set_lower_bound search.large
    ++ number_field tag.medium_set_present_number search.medium
    ++ boolean_field tag.replace_indicator search.replace
    ++ octets_field tag.result_set_name search.set_name
    ++ tree_field tag.database_names (database_names search.dbs)
    ++ optional (element_name_field tag.small_set_element_set_names) search.small_element
    ++ optional (element_name_field tag.medium_set_element_set_names) search.medium_element
    ++ syntax_field search.syntax
    ++ tree_field tag.query (asked_octets search.query)

-- recordComposition, where a name is asked for; what was refused has no written form
abbrev pub composition_field : Asked (Option (List ℕ)) → List ℕ
composition_field (Good name) = optional (element_name_field tag.record_composition_simple) name
composition_field (Bad diag) = []

-- the fields of a PresentRequest
unfoldable pub present_fields : Present → List ℕ
present_fields present =
    ref_id_field present.ref_id
    ++ octets_field tag.result_set_id present.set_name
    ++ integer_field tag.result_set_start_point present.start
    ++ number_field tag.number_of_records_requested present.number
    ++ composition_field present.element
    ++ syntax_field present.syntax

-- the fields of a ScanRequest behind its databases
unfoldable pub scan_ask_fields : ScanAsk → List ℕ
scan_ask_fields ask =
    optional object_identifier ask.attr_set
    ++ tree_field tag.term_list_and_start_point (attributes_plus_term ask.attrs ask.term)
    ++ optional (number_field tag.step_size) ask.step
    ++ number_field tag.number_of_terms_requested ask.number
    ++ optional (number_field tag.preferred_position_in_response) ask.position

-- what is asked, which alone has a written form
abbrev pub scan_asked_fields : Asked ScanAsk → List ℕ
scan_asked_fields (Good ask) = scan_ask_fields ask
scan_asked_fields (Bad diag) = []

-- the fields of a ScanRequest
unfoldable pub scan_fields : Scan → List ℕ
scan_fields scan =
    ref_id_field scan.ref_id
    ++ tree_field tag.scan_database_names (database_names scan.dbs)
    ++ scan_asked_fields scan.ask

-- the fields of a Close
unfoldable pub close_fields : Close → List ℕ
close_fields close =
    ref_id_field close.ref_id
    ++ number_field tag.close_reason close.reason
    ++ optional (octets_field tag.diagnostic_information) close.info

-- a Close, of either side
abbrev pub close_octets : Close → List ℕ
close_octets close = tree_field tag.close (close_fields close)

-- the one written form of a request
abbrev pub spell_request : Request → List ℕ
spell_request (request.Init init) = tree_field tag.init_request (init_request_fields init)
spell_request (request.Search search) = tree_field tag.search_request (search_fields search)
spell_request (request.Present present) = tree_field tag.present_request (present_fields present)
spell_request (request.Scan scan) = tree_field tag.scan_request (scan_fields scan)
spell_request (request.Close close) = close_octets close

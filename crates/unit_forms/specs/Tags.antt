-- The numbers of tags, by the standards' names: of the context class where nothing else is said
-- (ANSI/NISO Z39.50-2003, the definition of APDUs)
use Rattle.std.specs.Prelude.{ℕ}

-- units (PDU)
abbrev pub init_request : ℕ
init_request = 20

abbrev pub init_response : ℕ
init_response = 21

abbrev pub search_request : ℕ
search_request = 22

abbrev pub search_response : ℕ
search_response = 23

abbrev pub present_request : ℕ
present_request = 24

abbrev pub present_response : ℕ
present_response = 25

abbrev pub scan_request : ℕ
scan_request = 35

abbrev pub scan_response : ℕ
scan_response = 36

abbrev pub close : ℕ
close = 48

-- every unit
abbrev pub reference_id : ℕ
reference_id = 2

-- InitializeRequest and InitializeResponse
abbrev pub protocol_version : ℕ
protocol_version = 3

abbrev pub options : ℕ
options = 4

abbrev pub preferred_message_size : ℕ
preferred_message_size = 5

abbrev pub exceptional_record_size : ℕ
exceptional_record_size = 6

abbrev pub id_authentication : ℕ
id_authentication = 7

abbrev pub init_result : ℕ
init_result = 12

abbrev pub implementation_id : ℕ
implementation_id = 110

abbrev pub implementation_name : ℕ
implementation_name = 111

abbrev pub implementation_version : ℕ
implementation_version = 112

-- SearchRequest
abbrev pub small_set_upper_bound : ℕ
small_set_upper_bound = 13

abbrev pub large_set_lower_bound : ℕ
large_set_lower_bound = 14

abbrev pub medium_set_present_number : ℕ
medium_set_present_number = 15

abbrev pub replace_indicator : ℕ
replace_indicator = 16

abbrev pub result_set_name : ℕ
result_set_name = 17

abbrev pub database_names : ℕ
database_names = 18

abbrev pub small_set_element_set_names : ℕ
small_set_element_set_names = 100

abbrev pub medium_set_element_set_names : ℕ
medium_set_element_set_names = 101

abbrev pub preferred_record_syntax : ℕ
preferred_record_syntax = 104

abbrev pub query : ℕ
query = 21

-- DatabaseName and ElementSetNames
abbrev pub database_name : ℕ
database_name = 105

abbrev pub generic_element_set_name : ℕ
generic_element_set_name = 0

abbrev pub database_specific : ℕ
database_specific = 1

-- SearchResponse
abbrev pub result_count : ℕ
result_count = 23

abbrev pub number_of_records_returned : ℕ
number_of_records_returned = 24

abbrev pub next_result_set_position : ℕ
next_result_set_position = 25

abbrev pub search_status : ℕ
search_status = 22

abbrev pub present_status : ℕ
present_status = 27

-- PresentRequest
abbrev pub result_set_id : ℕ
result_set_id = 31

abbrev pub result_set_start_point : ℕ
result_set_start_point = 30

abbrev pub number_of_records_requested : ℕ
number_of_records_requested = 29

abbrev pub record_composition_simple : ℕ
record_composition_simple = 19

abbrev pub record_composition_complex : ℕ
record_composition_complex = 209

abbrev pub additional_ranges : ℕ
additional_ranges = 212

-- ScanRequest
abbrev pub scan_database_names : ℕ
scan_database_names = 3

abbrev pub term_list_and_start_point : ℕ
term_list_and_start_point = 102

abbrev pub step_size : ℕ
step_size = 5

abbrev pub number_of_terms_requested : ℕ
number_of_terms_requested = 6

abbrev pub preferred_position_in_response : ℕ
preferred_position_in_response = 7

-- ScanResponse, ListEntries, Entry and TermInfo
abbrev pub scan_status : ℕ
scan_status = 4

abbrev pub number_of_entries_returned : ℕ
number_of_entries_returned = 5

abbrev pub position_of_term : ℕ
position_of_term = 6

abbrev pub scan_entries : ℕ
scan_entries = 7

abbrev pub list_entries : ℕ
list_entries = 1

abbrev pub nonsurrogate_diagnostics : ℕ
nonsurrogate_diagnostics = 2

abbrev pub term_info : ℕ
term_info = 1

abbrev pub global_occurrences : ℕ
global_occurrences = 2

-- Close
abbrev pub close_reason : ℕ
close_reason = 211

abbrev pub diagnostic_information : ℕ
diagnostic_information = 3

-- Query, RPNStructure and Operator
abbrev pub type_1_query : ℕ
type_1_query = 1

abbrev pub type_101_query : ℕ
type_101_query = 101

abbrev pub operand : ℕ
operand = 0

abbrev pub rpn_rpn_op : ℕ
rpn_rpn_op = 1

abbrev pub operator : ℕ
operator = 46

abbrev pub and_operator : ℕ
and_operator = 0

abbrev pub or_operator : ℕ
or_operator = 1

abbrev pub and_not_operator : ℕ
and_not_operator = 2

abbrev pub proximity_operator : ℕ
proximity_operator = 3

-- Operand: AttributesPlusTerm
abbrev pub attributes_plus_term : ℕ
attributes_plus_term = 102

abbrev pub result_set_plus_attributes : ℕ
result_set_plus_attributes = 214

-- AttributeList and AttributeElement
abbrev pub attribute_list : ℕ
attribute_list = 44

abbrev pub attribute_set : ℕ
attribute_set = 1

abbrev pub attribute_type : ℕ
attribute_type = 120

abbrev pub attribute_value_numeric : ℕ
attribute_value_numeric = 121

abbrev pub attribute_value_complex : ℕ
attribute_value_complex = 224

-- Term
abbrev pub general_term : ℕ
general_term = 45

abbrev pub numeric_term : ℕ
numeric_term = 215

abbrev pub character_string_term : ℕ
character_string_term = 216

abbrev pub object_identifier_term : ℕ
object_identifier_term = 217

abbrev pub date_time_term : ℕ
date_time_term = 218

abbrev pub external_term : ℕ
external_term = 219

abbrev pub integer_and_unit_term : ℕ
integer_and_unit_term = 220

abbrev pub null_term : ℕ
null_term = 221

-- Records, NamePlusRecord and the encoding of an EXTERNAL (X.690, 8.18)
abbrev pub response_records : ℕ
response_records = 28

abbrev pub non_surrogate_diagnostic : ℕ
non_surrogate_diagnostic = 130

abbrev pub multiple_non_surrogate_diagnostics : ℕ
multiple_non_surrogate_diagnostics = 205

abbrev pub name_of_name_plus_record : ℕ
name_of_name_plus_record = 0

abbrev pub record_of_name_plus_record : ℕ
record_of_name_plus_record = 1

abbrev pub retrieval_record : ℕ
retrieval_record = 1

abbrev pub surrogate_diagnostic : ℕ
surrogate_diagnostic = 2

abbrev pub single_asn1_type : ℕ
single_asn1_type = 0

abbrev pub octet_aligned : ℕ
octet_aligned = 1

abbrev pub arbitrary : ℕ
arbitrary = 2

-- the universal class (X.690:2021, 8.3, 8.9, 8.18, 8.19, 8.23)
abbrev pub integer : ℕ
integer = 2

abbrev pub object_identifier : ℕ
object_identifier = 6

abbrev pub external : ℕ
external = 8

abbrev pub sequence : ℕ
sequence = 16

abbrev pub visible_string : ℕ
visible_string = 26

abbrev pub general_string : ℕ
general_string = 27

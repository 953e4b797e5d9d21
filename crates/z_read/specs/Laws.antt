-- What is true of every reading of units; the functions in src/laws.rt cite it (ANSI/NISO
-- Z39.50-2003, the ASN.1 of its APDUs).
use Rattle.std.specs.Prelude.{◌≡◌, ◌≢◌, ℕ, List, [], ◌∷◌, ◌==◌, Result, Ok, Err, if◌then◌else◌}
use Rattle.z_types.specs.Numbers.{HasNumbersInRange}
use Rattle.z_types.specs.declared.requests.Request.{Request}
use Rattle.z_ber.specs.declared.tag.Tag.{Tag}
use Rattle.z_ber.specs.Element.{Forest, none, leaf, branch}
use Rattle.z_ber.specs.Place.{IsUnit}
use Rattle.unit_forms.specs.Reading.Elements.{is_one_of}
use Rattle.unit_forms.specs.Reading.Rows.{context, universal}
use Rattle.unit_forms.specs.Reading.Units.{request_in}
use Rattle.z_read.specs.declared.fault.ReadFault.{ReadFault}
use Rattle.z_read.specs.declared.fault.ReadFault.TheVariants.{Memory}
use Rattle.unit_forms.specs.Tags as numbers

-- an answer other than want of memory
abbrev pub IsAnswer : {A : Type 0} → (List ℕ → Result A ReadFault → Type 0) → List ℕ
    → Result A ReadFault → Type 0
IsAnswer IsRead octets answer = (answer ≢ Err Memory) × IsRead octets answer

-- elements without those that have none of these tags
abbrev pub kept : List Tag → Forest → Forest
kept tags none = none
kept tags (leaf tag contents others) =
    if is_one_of tags tag then leaf tag contents (kept tags others) else kept tags others
kept tags (branch tag contents inner others) =
    if is_one_of tags tag then branch tag contents inner (kept tags others) else kept tags others

-- the context tags of these numbers
abbrev pub contexts : List ℕ → List Tag
contexts [] = []
contexts (number ∷ numbers) = context number ∷ contexts numbers

-- the numbers of the fields of InitializeRequest
abbrev init_request_fields : List ℕ
init_request_fields =
    numbers.reference_id
    ∷ numbers.protocol_version
    ∷ numbers.options
    ∷ numbers.preferred_message_size
    ∷ numbers.exceptional_record_size
    ∷ numbers.id_authentication ∷ []

-- the numbers of the fields of SearchRequest
abbrev search_request_fields : List ℕ
search_request_fields =
    numbers.reference_id
    ∷ numbers.small_set_upper_bound
    ∷ numbers.large_set_lower_bound
    ∷ numbers.medium_set_present_number
    ∷ numbers.replace_indicator
    ∷ numbers.result_set_name
    ∷ numbers.database_names
    ∷ numbers.small_set_element_set_names
    ∷ numbers.medium_set_element_set_names
    ∷ numbers.preferred_record_syntax
    ∷ numbers.query ∷ []

-- the numbers of the fields of PresentRequest
abbrev present_request_fields : List ℕ
present_request_fields =
    numbers.reference_id
    ∷ numbers.result_set_id
    ∷ numbers.result_set_start_point
    ∷ numbers.number_of_records_requested
    ∷ numbers.record_composition_simple
    ∷ numbers.record_composition_complex
    ∷ numbers.additional_ranges
    ∷ numbers.preferred_record_syntax ∷ []

-- the numbers of the fields of ScanRequest
abbrev scan_request_fields : List ℕ
scan_request_fields =
    numbers.reference_id
    ∷ numbers.scan_database_names
    ∷ numbers.term_list_and_start_point
    ∷ numbers.step_size
    ∷ numbers.number_of_terms_requested
    ∷ numbers.preferred_position_in_response ∷ []

-- the numbers of the fields of Close
abbrev close_fields : List ℕ
close_fields =
    numbers.reference_id
    ∷ numbers.close_reason
    ∷ numbers.diagnostic_information ∷ []

-- the numbers of the fields of InitializeResponse
abbrev init_response_fields : List ℕ
init_response_fields =
    numbers.reference_id
    ∷ numbers.protocol_version
    ∷ numbers.options
    ∷ numbers.preferred_message_size
    ∷ numbers.exceptional_record_size
    ∷ numbers.init_result ∷ []

-- the numbers of the fields of SearchResponse
abbrev search_response_fields : List ℕ
search_response_fields =
    numbers.reference_id
    ∷ numbers.result_count
    ∷ numbers.number_of_records_returned
    ∷ numbers.next_result_set_position
    ∷ numbers.search_status
    ∷ numbers.present_status
    ∷ numbers.response_records
    ∷ numbers.non_surrogate_diagnostic
    ∷ numbers.multiple_non_surrogate_diagnostics ∷ []

-- the numbers of the fields of PresentResponse
abbrev present_response_fields : List ℕ
present_response_fields =
    numbers.reference_id
    ∷ numbers.number_of_records_returned
    ∷ numbers.next_result_set_position
    ∷ numbers.present_status
    ∷ numbers.response_records
    ∷ numbers.non_surrogate_diagnostic
    ∷ numbers.multiple_non_surrogate_diagnostics ∷ []

-- the numbers of the fields of ScanResponse
abbrev scan_response_fields : List ℕ
scan_response_fields =
    numbers.reference_id
    ∷ numbers.scan_status
    ∷ numbers.number_of_entries_returned
    ∷ numbers.position_of_term
    ∷ numbers.scan_entries ∷ []

-- the tags of the fields of a request, by the number of its own; the attribute set of a Scan has a
-- universal tag
abbrev pub request_tags : ℕ → List Tag
request_tags number =
    if number == numbers.init_request then contexts init_request_fields
    else (if number == numbers.search_request then contexts search_request_fields
    else (if number == numbers.present_request then contexts present_request_fields
    else (if number == numbers.scan_request
    then universal numbers.object_identifier ∷ contexts scan_request_fields
    else contexts close_fields)))

-- the tags of the fields of a reply, by the number of its own
abbrev pub reply_tags : ℕ → List Tag
reply_tags number =
    if number == numbers.init_response then contexts init_response_fields
    else (if number == numbers.search_response then contexts search_response_fields
    else (if number == numbers.present_response then contexts present_response_fields
    else (if number == numbers.scan_response then contexts scan_response_fields
    else contexts close_fields)))

-- two units with one tag, and with the same elements of its fields' tags; whatever else stands in
-- them
pub record HaveSameFields (tags : ℕ → List Tag) (a b : List ℕ) : Type 0 where
  pub tag : Tag
  pub contents : List ℕ
  pub others : List ℕ
  pub fields : Forest
  pub more : Forest
  pub first : IsUnit a (branch tag contents fields none)
  pub second : IsUnit b (branch tag others more none)
  pub same : kept (tags tag.number) fields ≡ kept (tags tag.number) more

-- elements that are skipped change nothing: units with the same fields have the same answers
abbrev pub SkippedChangeNothing : {A : Type 0} → (ℕ → List Tag)
    → (List ℕ → Result A ReadFault → Type 0) → Type 0
SkippedChangeNothing {A} tags IsRead =
    (a b : List ℕ) (answer : Result A ReadFault) → HaveSameFields tags a b → IsRead a answer
    → IsRead b answer

-- the numbers of every request that a unit's tree is read as are in the ranges of their fields
abbrev pub ReadRequestsHaveNumbers : Type 0
ReadRequestsHaveNumbers =
    (tree : Forest) (request : Request) → request_in tree ≡ Ok request → HasNumbersInRange request

-- For contracts alone: replies as they are read (ANSI/NISO Z39.50-2003, InitializeResponse,
-- SearchResponse, PresentResponse, ScanResponse).
use Rattle.std.specs.Prelude.{ℕ, List, [], Bool, Option, Some, None, Result, Err, ◌==◌, if◌then◌else◌}
use Rattle.z_types.specs.declared.diagnostic.Diag.{Diag}
use Rattle.z_types.specs.declared.query.Term.{Term}
use Rattle.z_types.specs.declared.query.Term.TheVariants.{General, Number, Words}
use Rattle.z_types.specs.declared.records.Body.{Body}
use Rattle.z_types.specs.declared.replies.Reply.{Reply}
use Rattle.z_types.specs.declared.replies.Reply.TheVariants as reply
use Rattle.z_types.specs.declared.requests.Init.{Init}
use Rattle.z_types.specs.declared.scan.ScanAnswer.{ScanAnswer}
use Rattle.z_types.specs.declared.scan.ScanEntry.{ScanEntry}
use Rattle.z_ber.specs.Element.{Forest}
use Rattle.unit_forms.specs.declared.refusal.Refusal.{Refusal}
use Rattle.unit_forms.specs.declared.refusal.Refusal.TheVariants.{LeftOut}
use Rattle.unit_forms.specs.Reading.Answers.{◌⊗◌, read_as}
use Rattle.unit_forms.specs.Reading.Attributes.{term_choice}
use Rattle.unit_forms.specs.Reading.Elements.{Field}
use Rattle.unit_forms.specs.Reading.InitRequest.{init_response_in}
use Rattle.unit_forms.specs.Reading.Records.{body_in, diags_in}
use Rattle.unit_forms.specs.Reading.Rows.{octets_of, integer_of, number_of, truth_of, context, required, required_of, optional, within, each_with}
use Rattle.unit_forms.specs.Tags as numbers

-- an InitializeResponse
abbrev as_init_reply : Init × Bool → Reply
as_init_reply (init, result) = reply.Init init result

unfoldable pub init_reply_in : Forest → Result Reply Refusal
init_reply_in fields = read_as as_init_reply (init_response_in fields)

-- referenceId [2] OPTIONAL, resultCount [23], numberOfRecordsReturned [24], nextResultSetPosition
-- [25]
abbrev pub Counts : Type 0
Counts = Option (List ℕ) × (ℕ × (ℕ × ℕ))

unfoldable pub counts_in : Forest → Result Counts Refusal
counts_in fields =
    optional numbers.reference_id octets_of fields
    ⊗ required numbers.result_count number_of fields
    ⊗ required numbers.number_of_records_returned number_of fields
    ⊗ required numbers.next_result_set_position number_of fields

-- searchStatus [22], presentStatus [27] OPTIONAL, records OPTIONAL
abbrev pub Found : Type 0
Found = Bool × (Option ℕ × Body)

unfoldable pub found_in : Forest → Result Found Refusal
found_in fields =
    required numbers.search_status truth_of fields
    ⊗ optional numbers.present_status number_of fields ⊗ body_in fields

abbrev as_search_reply : Counts × Found → Reply
as_search_reply ((ref_id, (count, (returned, next))), (ok, (status, body))) =
    reply.Search ref_id count returned next ok status body

-- SearchResponse
unfoldable pub search_reply_in : Forest → Result Reply Refusal
search_reply_in fields = read_as as_search_reply (counts_in fields ⊗ found_in fields)

-- referenceId [2] OPTIONAL, numberOfRecordsReturned [24], nextResultSetPosition [25]
abbrev pub Returned : Type 0
Returned = Option (List ℕ) × (ℕ × ℕ)

unfoldable pub returned_in : Forest → Result Returned Refusal
returned_in fields =
    optional numbers.reference_id octets_of fields
    ⊗ required numbers.number_of_records_returned number_of fields
    ⊗ required numbers.next_result_set_position number_of fields

-- presentStatus [27], records OPTIONAL
unfoldable pub presented_in : Forest → Result (ℕ × Body) Refusal
presented_in fields = required numbers.present_status number_of fields ⊗ body_in fields

abbrev as_present_reply : Returned × (ℕ × Body) → Reply
as_present_reply ((ref_id, (returned, next)), (status, body)) =
    reply.Present ref_id returned next status body

-- PresentResponse
unfoldable pub present_reply_in : Forest → Result Reply Refusal
present_reply_in fields = read_as as_present_reply (returned_in fields ⊗ presented_in fields)

-- the term of an entry; there is no diagnostic for a form that is not served, which is left out
abbrev pub entry_term_of : Field → Result Term Refusal
entry_term_of field =
    if field.tag.number == numbers.general_term then read_as General (octets_of field)
    else (if field.tag.number == numbers.numeric_term then read_as Number (integer_of field)
    else (if field.tag.number == numbers.character_string_term then read_as Words (octets_of field)
    else Err (LeftOut field.tag.number)))

abbrev as_entry : Term × Option ℕ → ScanEntry
as_entry (term, occurrences) = record { term = term; occurrences = occurrences }

-- TermInfo: Term, globalOccurrences [2] OPTIONAL
unfoldable pub entry_in : Forest → Result ScanEntry Refusal
entry_in fields =
    read_as as_entry (
    required_of numbers.general_term term_choice entry_term_of fields
    ⊗ optional numbers.global_occurrences number_of fields)

abbrev pub entry_of : Field → Result ScanEntry Refusal
entry_of field = within entry_in field

-- Entry: termInfo [1]; others are skipped
unfoldable pub entries_in : Forest → Result (List ScanEntry) Refusal
entries_in elements = each_with (context numbers.term_info) entry_of elements

-- a list that may be absent is then empty
abbrev pub or_empty : {A : Type 0} → Option (List A) → List A
or_empty None = []
or_empty (Some items) = items

-- what is listed: entries, and diagnostics
abbrev pub Listed : Type 0
Listed = List ScanEntry × List Diag

abbrev as_listed : Option (List ScanEntry) × Option (List Diag) → Listed
as_listed (entries, diags) = (or_empty entries, or_empty diags)

-- ListEntries: entries [1] OPTIONAL, nonsurrogateDiagnostics [2] OPTIONAL
unfoldable pub listed_in : Forest → Result Listed Refusal
listed_in fields =
    read_as as_listed (
    optional numbers.list_entries (within entries_in) fields
    ⊗ optional numbers.nonsurrogate_diagnostics (within diags_in) fields)

abbrev pub listed_or_nothing : Option Listed → Listed
listed_or_nothing None = ([], [])
listed_or_nothing (Some listed) = listed

-- entries [7] OPTIONAL
unfoldable pub listing_in : Forest → Result Listed Refusal
listing_in fields =
    read_as listed_or_nothing (optional numbers.scan_entries (within listed_in) fields)

-- referenceId [2] OPTIONAL, scanStatus [4], numberOfEntriesReturned [5]
abbrev pub Scanned : Type 0
Scanned = Option (List ℕ) × (ℕ × ℕ)

unfoldable pub scanned_in : Forest → Result Scanned Refusal
scanned_in fields =
    optional numbers.reference_id octets_of fields
    ⊗ required numbers.scan_status number_of fields
    ⊗ required numbers.number_of_entries_returned number_of fields

abbrev answer_with : Option ℕ → List ScanEntry → ScanAnswer
answer_with position entries = record { position = position; entries = entries }

-- the number of entries is not compared with them
abbrev as_scan_reply : Scanned × (Option ℕ × Listed) → Reply
as_scan_reply ((ref_id, (status, number)), (position, (entries, diags))) =
    reply.Scan ref_id status (answer_with position entries) diags

-- ScanResponse, with positionOfTerm [6] OPTIONAL
unfoldable pub scan_reply_in : Forest → Result Reply Refusal
scan_reply_in fields =
    read_as as_scan_reply
    (scanned_in fields ⊗ (optional numbers.position_of_term number_of fields ⊗ listing_in fields))

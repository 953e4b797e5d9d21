-- Replies as they are written (ANSI/NISO Z39.50-2003, InitializeResponse, SearchResponse,
-- PresentResponse, ScanResponse and Close)
use Rattle.std.specs.Prelude.{ℕ, Bool, List, [], ◌∷◌, ◌++◌, Option, codes, length}
use Rattle.std.specs.List.{flat_map}
use Rattle.z_types.specs.declared.diagnostic.Diag.{Diag}
use Rattle.z_types.specs.declared.records.Body.{Body}
use Rattle.z_types.specs.declared.replies.Reply.{Reply}
use Rattle.z_types.specs.declared.replies.Reply.TheVariants as reply
use Rattle.z_types.specs.declared.requests.Init.{Init}
use Rattle.z_types.specs.declared.scan.ScanEntry.{ScanEntry}
use Rattle.z_types.specs.declared.scan.ScanAnswer.{ScanAnswer}
use Rattle.unit_forms.specs.Fields.{octets_field, number_field, boolean_field, tree_field, optional, ref_id_field}
use Rattle.unit_forms.specs.Query.{term_octets}
use Rattle.unit_forms.specs.Records.{diag_octets, body_octets}
use Rattle.unit_forms.specs.Requests.{init_fields, close_octets}
use Rattle.unit_forms.specs.Tags as tag

-- the implementation's id, name and version, which each InitializeResponse tells
unfoldable pub implementation_fields : List ℕ
implementation_fields =
    octets_field tag.implementation_id (codes "mp")
    ++ octets_field tag.implementation_name (codes "gateway")
    ++ octets_field tag.implementation_version (codes "1")

-- the fields of an InitializeResponse
abbrev pub init_reply_fields : Init → Bool → List ℕ
init_reply_fields init result =
    init_fields init ++ boolean_field tag.init_result result ++ implementation_fields

-- the fields of a SearchResponse
unfoldable pub search_reply_fields : Option (List ℕ) → ℕ → ℕ → ℕ → Bool → Option ℕ → Body → List ℕ
search_reply_fields ref_id count returned next ok status body =
    ref_id_field ref_id
    ++ number_field tag.result_count count
    ++ number_field tag.number_of_records_returned returned
    ++ number_field tag.next_result_set_position next
    ++ boolean_field tag.search_status ok
    ++ optional (number_field tag.present_status) status
    ++ body_octets body

-- the fields of a PresentResponse
unfoldable pub present_reply_fields : Option (List ℕ) → ℕ → ℕ → ℕ → Body → List ℕ
present_reply_fields ref_id returned next status body =
    ref_id_field ref_id
    ++ number_field tag.number_of_records_returned returned
    ++ number_field tag.next_result_set_position next
    ++ number_field tag.present_status status
    ++ body_octets body

-- the fields of a TermInfo: the term, and in how many records it stands
abbrev pub term_info_fields : ScanEntry → List ℕ
term_info_fields entry =
    term_octets entry.term ++ optional (number_field tag.global_occurrences) entry.occurrences

-- Entry, as a TermInfo
unfoldable pub entry_octets : ScanEntry → List ℕ
entry_octets entry = tree_field tag.term_info (term_info_fields entry)

-- the entries of a ListEntries, which are left out where there are none beside diagnostics
abbrev pub list_entries_field : List ScanEntry → List Diag → List ℕ
list_entries_field [] [] = tree_field tag.list_entries []
list_entries_field [] (diag ∷ diags) = []
list_entries_field (entry ∷ entries) diags =
    tree_field tag.list_entries (flat_map entry_octets (entry ∷ entries))

-- the diagnostics of a ListEntries, where there are some
abbrev pub scan_diags_field : List Diag → List ℕ
scan_diags_field [] = []
scan_diags_field (diag ∷ diags) =
    tree_field tag.nonsurrogate_diagnostics (flat_map diag_octets (diag ∷ diags))

-- ListEntries
unfoldable pub list_entries : List ScanEntry → List Diag → List ℕ
list_entries entries diags = list_entries_field entries diags ++ scan_diags_field diags

-- the fields of a ScanResponse
unfoldable pub scan_reply_fields : Option (List ℕ) → ℕ → ScanAnswer → List Diag → List ℕ
scan_reply_fields ref_id status answer diags =
    ref_id_field ref_id
    ++ number_field tag.scan_status status
    ++ number_field tag.number_of_entries_returned (length answer.entries)
    ++ optional (number_field tag.position_of_term) answer.position
    ++ tree_field tag.scan_entries (list_entries answer.entries diags)

-- the one written form of a reply
abbrev pub spell_reply : Reply → List ℕ
spell_reply (reply.Init init result) = tree_field tag.init_response (init_reply_fields init result)
spell_reply (reply.Search ref_id count returned next ok status body) =
    tree_field tag.search_response (search_reply_fields ref_id count returned next ok status body)
spell_reply (reply.Present ref_id returned next status body) =
    tree_field tag.present_response (present_reply_fields ref_id returned next status body)
spell_reply (reply.Scan ref_id status answer diags) =
    tree_field tag.scan_response (scan_reply_fields ref_id status answer diags)
spell_reply (reply.Close close) = close_octets close

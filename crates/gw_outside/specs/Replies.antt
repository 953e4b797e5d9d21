-- What replies of a target say (ANSI/NISO Z39.50-2003, InitializeResponse, SearchResponse,
-- PresentResponse and ScanResponse); where they contradict themselves they say nothing
use Rattle.std.specs.Prelude.{ℕ, ◌&&◌, Bool, true, false, List, [], ◌∷◌, map, Option, Some, None, Result, Ok, Err}
use Rattle.z_types.specs.Bib1.{is_gone}
use Rattle.z_types.specs.Services.{has_named_result_sets}
use Rattle.z_types.specs.declared.diagnostic.Diag.{Diag}
use Rattle.z_types.specs.declared.records.Item.{Item}
use Rattle.z_types.specs.declared.records.Body.{Body}
use Rattle.z_types.specs.declared.records.Body.TheVariants as body
use Rattle.z_types.specs.declared.replies.Reply.{Reply}
use Rattle.z_types.specs.declared.replies.Reply.TheVariants as reply
use Rattle.z_types.specs.declared.scan.ScanAnswer.{ScanAnswer}

-- whether an Init is accepted
abbrev pub is_accepted : Reply → Bool
is_accepted (reply.Init init result) = result
is_accepted (reply.Search ref_id count returned next ok status body) = false
is_accepted (reply.Present ref_id returned next status body) = false
is_accepted (reply.Scan ref_id status answer diags) = false
is_accepted (reply.Close close) = false

-- whether an Init is accepted, and named result sets with it
abbrev pub accepts : Reply → Bool
accepts (reply.Init init result) = result && has_named_result_sets init.options
accepts (reply.Search ref_id count returned next ok status body) = false
accepts (reply.Present ref_id returned next status body) = false
accepts (reply.Scan ref_id status answer diags) = false
accepts (reply.Close close) = false

-- the first diagnostic of a list
abbrev pub first_diag : List Diag → Option Diag
first_diag [] = None
first_diag (diag ∷ diags) = Some diag

-- the first diagnostic that stands in the place of records
abbrev pub diag_of : Body → Option Diag
diag_of body.None = None
diag_of (body.Records records) = None
diag_of (body.Diag diag) = Some diag
diag_of (body.Diags diags) = first_diag diags

-- hits where the search succeeded, and a diagnostic where it failed
abbrev pub hits_said : Bool → ℕ → Option Diag → Option (Result ℕ Diag)
hits_said true count None = Some (Ok count)
hits_said false count (Some diag) = Some (Err diag)
hits_said true count (Some diag) = None
hits_said false count None = None

-- what a reply to a Search says
abbrev pub search_said : Reply → Option (Result ℕ Diag)
search_said (reply.Search ref_id count returned next ok status body) =
    hits_said ok count (diag_of body)
search_said (reply.Init init result) = None
search_said (reply.Present ref_id returned next status body) = None
search_said (reply.Scan ref_id status answer diags) = None
search_said (reply.Close close) = None

-- a diagnostic, if there is one
abbrev pub refusal_said : {T : Type 0} → Option Diag → Option (Result T Diag)
refusal_said None = None
refusal_said (Some diag) = Some (Err diag)

-- records, or the first diagnostic in their place
abbrev pub items_said : Body → Option (Result (List Item) Diag)
items_said (body.Records records) = Some (Ok (map (λ named. named.item) records))
items_said body.None = None
items_said (body.Diag diag) = Some (Err diag)
items_said (body.Diags diags) = refusal_said (first_diag diags)

-- what a reply to a Present says
abbrev pub present_said : Reply → Option (Result (List Item) Diag)
present_said (reply.Present ref_id returned next status body) = items_said body
present_said (reply.Init init result) = None
present_said (reply.Search ref_id count returned next ok status body) = None
present_said (reply.Scan ref_id status answer diags) = None
present_said (reply.Close close) = None

-- entries, or the first diagnostic beside them
abbrev pub scanned_said : ScanAnswer → List Diag → Result ScanAnswer Diag
scanned_said answer [] = Ok answer
scanned_said answer (diag ∷ diags) = Err diag

-- what a reply to a Scan says
abbrev pub scan_said : Reply → Option (Result ScanAnswer Diag)
scan_said (reply.Scan ref_id status answer diags) = Some (scanned_said answer diags)
scan_said (reply.Init init result) = None
scan_said (reply.Search ref_id count returned next ok status body) = None
scan_said (reply.Present ref_id returned next status body) = None
scan_said (reply.Close close) = None

-- whether it says that the result set is gone
abbrev pub gone_said : Option (Result (List Item) Diag) → Bool
gone_said None = false
gone_said (Some (Ok items)) = false
gone_said (Some (Err diag)) = is_gone diag

-- whether a reply to a Present says that the result set is gone
abbrev pub says_gone : Reply → Bool
says_gone answer = gone_said (present_said answer)

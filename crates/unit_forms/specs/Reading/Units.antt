-- Units as they are read (ANSI/NISO Z39.50-2003, PDU).
use Rattle.std.specs.Prelude.{◌≡◌, ℕ, List, Option, Some, None, Result, Ok, Err, ◌==◌, if◌then◌else◌}
use Rattle.z_types.specs.declared.requests.Request.{Request}
use Rattle.z_types.specs.declared.requests.Request.TheVariants as request
use Rattle.z_types.specs.declared.replies.Reply.{Reply}
use Rattle.z_types.specs.declared.replies.Reply.TheVariants as reply
use Rattle.z_ber.specs.Element.{Forest}
use Rattle.z_ber.specs.Place.{IsUnit}
use Rattle.unit_forms.specs.declared.refusal.Refusal.{Refusal}
use Rattle.unit_forms.specs.declared.refusal.Refusal.TheVariants.{UnknownUnit}
use Rattle.unit_forms.specs.Reading.Answers.{read_as, read_or}
use Rattle.unit_forms.specs.Reading.CloseUnit.{close_in}
use Rattle.unit_forms.specs.Reading.Elements.{Field, first_element}
use Rattle.unit_forms.specs.Reading.InitRequest.{init_in}
use Rattle.unit_forms.specs.Reading.PresentRequest.{present_in}
use Rattle.unit_forms.specs.Reading.Responses.{init_reply_in, search_reply_in, present_reply_in, scan_reply_in}
use Rattle.unit_forms.specs.Reading.ScanRequest.{scan_in}
use Rattle.unit_forms.specs.Reading.SearchRequest.{search_in}
use Rattle.unit_forms.specs.Tags as numbers

-- initRequest [20], searchRequest [22], presentRequest [24], scanRequest [35], close [48]; one in
-- primitive form has no fields
abbrev pub numbered_request : ℕ → Field → Result Request Refusal
numbered_request number field =
    if number == numbers.init_request then read_as request.Init (init_in field.inner)
    else (if number == numbers.search_request then read_as request.Search (search_in field.inner)
    else (if number == numbers.present_request then read_as request.Present (present_in field.inner)
    else (if number == numbers.scan_request then read_as request.Scan (scan_in field.inner)
    else (if number == numbers.close then read_as request.Close (close_in field.inner)
    else Err (UnknownUnit number)))))

-- a unit has a tag of the context class
unfoldable pub request_of : Field → Result Request Refusal
request_of field =
    if field.tag.class == 2 then numbered_request field.tag.number field
    else Err (UnknownUnit field.tag.number)

-- initResponse [21], searchResponse [23], presentResponse [25], scanResponse [36], close [48]; one
-- in primitive form has no fields
abbrev pub numbered_reply : ℕ → Field → Result Reply Refusal
numbered_reply number field =
    if number == numbers.init_response then init_reply_in field.inner
    else (if number == numbers.search_response then search_reply_in field.inner
    else (if number == numbers.present_response then present_reply_in field.inner
    else (if number == numbers.scan_response then scan_reply_in field.inner
    else (if number == numbers.close then read_as reply.Close (close_in field.inner)
    else Err (UnknownUnit number)))))

unfoldable pub reply_of : Field → Result Reply Refusal
reply_of field =
    if field.tag.class == 2 then numbered_reply field.tag.number field
    else Err (UnknownUnit field.tag.number)

-- the request, or the reply, that a unit with this tree is; an element has a first element
abbrev pub request_in : Forest → Result Request Refusal
request_in tree = read_or (UnknownUnit 0) request_of (first_element tree)

abbrev pub reply_in : Forest → Result Reply Refusal
reply_in tree = read_or (UnknownUnit 0) reply_of (first_element tree)

-- octets are a unit that is read as this request, or as none
abbrev pub IsReading : List ℕ → Option Request → Type 0
IsReading octets (Some request) =
    (tree : Forest) × IsUnit octets tree × (request_in tree ≡ Ok request)
IsReading octets None =
    (tree : Forest) (request : Request) → IsUnit octets tree → request_in tree ≡ Ok request → ⊥

-- whatever request octets are read as, it is this one
abbrev pub IsOnlyReading : List ℕ → Option Request → Type 0
IsOnlyReading octets read =
    (tree : Forest) (request : Request) → IsUnit octets tree → request_in tree ≡ Ok request
    → read ≡ Some request

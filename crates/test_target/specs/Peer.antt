-- How the peer of the test target n answers (ANSI/NISO Z39.50-2003, 3.2.1 to 3.2.3, 3.2.8 and
-- 3.2.11; how many records it gives is this project's own)
use Rattle.std.specs.Prelude.{ℕ, zero, suc, ◌+◌, ◌-◌, ◌==◌, ◌&&◌, ℤ, pos, negsuc, bit_and, not, true, false, List, [], ◌∷◌, length, map, filter, min, Option, None, Some, Result, Ok, Err, nat_le, if◌then◌else◌}
use Rattle.z_types.specs.Bib1.{bib1}
use Rattle.z_types.specs.Bounds.{most_unit_octets}
use Rattle.z_types.specs.declared.conditions.Condition.TheVariants.{PresentRequestOutOfRange, ResultSetDoesNotExist}
use Rattle.z_types.specs.declared.diagnostic.Diag.{Diag}
use Rattle.z_types.specs.declared.key.SetKey.{SetKey}
use Rattle.z_types.specs.declared.query.RpnQuery.{RpnQuery}
use Rattle.z_types.specs.declared.records.Item.{Item}
use Rattle.z_types.specs.declared.records.NamedRecord.{NamedRecord}
use Rattle.z_types.specs.declared.records.Body.TheVariants as body
use Rattle.z_types.specs.declared.replies.Reply.{Reply}
use Rattle.z_types.specs.declared.replies.Reply.TheVariants as reply
use Rattle.z_types.specs.declared.requests.Asked.{Asked}
use Rattle.z_types.specs.declared.requests.Asked.TheVariants.{Good, Bad}
use Rattle.z_types.specs.declared.requests.Close.{Close}
use Rattle.z_types.specs.declared.requests.Init.{Init}
use Rattle.z_types.specs.declared.requests.Search.{Search}
use Rattle.z_types.specs.declared.requests.Present.{Present}
use Rattle.z_types.specs.declared.requests.Scan.{Scan}
use Rattle.z_types.specs.declared.requests.Request.{Request}
use Rattle.z_types.specs.declared.requests.Request.TheVariants as request
use Rattle.z_types.specs.declared.scan.ScanAsk.{ScanAsk}
use Rattle.z_types.specs.declared.scan.ScanAnswer.{ScanAnswer}
use Rattle.z_types.specs.Same.{is_same}
use Rattle.gw_outside.specs.Peers.{NamedSet, held, set_of}
use Rattle.z_types.specs.Services.{own_versions, own_options}
use Rattle.test_target.specs.Searches.{search_at}
use Rattle.test_target.specs.Records.{record_at}
use Rattle.test_target.specs.Scans.{scan_at}

-- ---- Init

-- what was asked for, as far as the target has it
abbrev pub agreed : Init → Init
agreed init = record {
  ref_id = init.ref_id;
  versions = bit_and init.versions own_versions;
  options = bit_and init.options own_options;
  preferred = min init.preferred most_unit_octets;
  exceptional = min init.exceptional most_unit_octets;
  login = None;
}

-- ---- Search

abbrev pub search_failed : Option (List ℕ) → Diag → Reply
search_failed ref_id diag = reply.Search ref_id 0 0 0 false None (body.Diag diag)

-- the position of the first record, where there is one
abbrev pub first_position : ℕ → ℕ
first_position hits = min hits 1

abbrev pub searched : Option (List ℕ) → Result ℕ Diag → Reply
searched ref_id (Ok hits) = reply.Search ref_id hits 0 (first_position hits) true None body.None
searched ref_id (Err diag) = search_failed ref_id diag

abbrev pub search_reply : ℕ → Search → Asked RpnQuery → Reply
search_reply n asked (Good query) =
    searched asked.ref_id (search_at n (record { dbs = asked.dbs; query = query }))
search_reply n asked (Bad diag) = search_failed asked.ref_id diag

-- the sets of all names but one
abbrev pub without : List ℕ → List NamedSet → List NamedSet
without name sets = filter (λ set. not (is_same set.0 name)) sets

-- a set takes the place of what its name had, or the name has none now
abbrev pub with_set : List ℕ → Option SetKey → List NamedSet → List NamedSet
with_set name None sets = without name sets
with_set name (Some key) sets = (name, key) ∷ without name sets

-- a good search puts its name, and every other one removes it
abbrev pub sets_after_search : ℕ → Search → Asked RpnQuery → List NamedSet → List NamedSet
sets_after_search n asked (Good query) sets =
    let key : SetKey = record { dbs = asked.dbs; query = query } in
    with_set asked.set_name (set_of key (search_at n key)) sets
sets_after_search n asked (Bad diag) sets = without asked.set_name sets

-- ---- Present

abbrev pub present_failed : Option (List ℕ) → Diag → Reply
present_failed ref_id diag = reply.Present ref_id 0 0 5 (body.Diag diag)

-- the most records of a reply
abbrev pub most_given : ℕ
most_given = 5

-- one record more, before others
abbrev pub with_record : Result Item Diag → List Item → List Item
with_record (Ok item) items = item ∷ items
with_record (Err diag) items = []

-- `count` records from a position on, up to one that is refused
abbrev pub given : (ℕ → Result Item Diag) → ℕ → ℕ → List Item
given record_at first zero = []
given record_at first (suc count) =
    with_record (record_at first) (given record_at (first + 1) count)

-- the position behind the last record of a reply, where there is a record
abbrev pub next_position : ℕ → ℕ → ℕ
next_position next hits = if nat_le next hits then next else 0

-- PresentStatus: all that was asked for, or what the target is ready to give (partial-4)
abbrev pub status_of : ℕ → ℕ → ℕ
status_of returned number = if returned == number then 0 else 4

-- a record under no name
abbrev pub unnamed : Item → NamedRecord
unnamed item = record { name = None; item = item }

-- records from a position on
abbrev pub records_reply : Present → ℕ → ℕ → List NamedRecord → Reply
records_reply present first hits records =
    reply.Present present.ref_id (length records) (next_position (first + length records) hits)
    (status_of (length records) present.number) (body.Records records)

-- the diagnostic in place of the first record, or it and those behind it
abbrev pub presented : Present → ℕ → ℕ → Result Item Diag → List Item → Reply
presented present first hits (Err diag) items = present_failed present.ref_id diag
presented present first hits (Ok item) items =
    records_reply present first hits (map unnamed (item ∷ items))

-- the position of the first record, where all that is asked for is within the hits
abbrev pub first_within : ℤ → ℕ → ℕ → Option ℕ
first_within (pos first) number hits =
    if nat_le 1 first && nat_le 1 number && nat_le (first + number) (hits + 1)
    then Some first else None
first_within (negsuc n) number hits = None

abbrev pub hits_or_none : Result ℕ Diag → ℕ
hits_or_none (Ok hits) = hits
hits_or_none (Err diag) = 0

abbrev pub hits_of : ℕ → SetKey → ℕ
hits_of n key = hits_or_none (search_at n key)

-- the records from a position on, as many as a reply takes
abbrev pub reply_from : ℕ → Present → Option (List ℕ) → SetKey → Option ℕ → Reply
reply_from n present element key None =
    present_failed present.ref_id (bib1 PresentRequestOutOfRange [])
reply_from n present element key (Some first) =
    let found : ℕ
    → Result Item Diag = λ position. record_at n key position present.syntax element in
    presented present first (hits_of n key) (found first)
    (given found (first + 1) (min present.number most_given - 1))

abbrev pub set_reply : ℕ → Present → Option (List ℕ) → Option SetKey → Reply
set_reply n present element None =
    present_failed present.ref_id (bib1 ResultSetDoesNotExist present.set_name)
set_reply n present element (Some key) =
    reply_from n present element key (first_within present.start present.number (hits_of n key))

abbrev pub present_reply : ℕ → List NamedSet → Present → Asked (Option (List ℕ)) → Reply
present_reply n sets present (Good element) =
    set_reply n present element (held sets present.set_name)
present_reply n sets present (Bad diag) = present_failed present.ref_id diag

-- ---- Scan and Close

abbrev pub scan_failed : Option (List ℕ) → Diag → Reply
scan_failed ref_id diag = reply.Scan ref_id 6 (record { position = None; entries = [] }) (diag ∷ [])

abbrev pub scanned : Option (List ℕ) → Result ScanAnswer Diag → Reply
scanned ref_id (Ok answer) = reply.Scan ref_id 0 answer []
scanned ref_id (Err diag) = scan_failed ref_id diag

abbrev pub scan_reply : ℕ → Scan → Asked ScanAsk → Reply
scan_reply n scan (Good ask) = scanned scan.ref_id (scan_at n scan.dbs ask)
scan_reply n scan (Bad diag) = scan_failed scan.ref_id diag

abbrev pub close_reply : Close → Reply
close_reply close = reply.Close (record { ref_id = close.ref_id; reason = 0; info = None })

-- ---- a request

-- the reply of a target that holds these sets
abbrev pub reply_to : ℕ → List NamedSet → Request → Reply
reply_to n sets (request.Init init) = reply.Init (agreed init) true
reply_to n sets (request.Search asked) = search_reply n asked asked.query
reply_to n sets (request.Present present) = present_reply n sets present present.element
reply_to n sets (request.Scan scan) = scan_reply n scan scan.ask
reply_to n sets (request.Close close) = close_reply close

-- the sets that it holds then
abbrev pub sets_after : ℕ → List NamedSet → Request → List NamedSet
sets_after n sets (request.Init init) = sets
sets_after n sets (request.Search asked) = sets_after_search n asked asked.query sets
sets_after n sets (request.Present present) = sets
sets_after n sets (request.Scan scan) = sets
sets_after n sets (request.Close close) = sets

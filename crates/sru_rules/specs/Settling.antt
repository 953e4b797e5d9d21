-- What a GET is answered by what came of its works (SRU 1.2, Response Parameters, Records,
-- Diagnostics)
use Rattle.std.specs.Prelude.{ℕ, ◌==◌, Bool, false, List, [], Option, None, Some, map, max, nat_lt, slice_get}
use Rattle.std.specs.Prelude.{if◌then◌else◌}
use Rattle.z_types.specs.MergedOrder.{total}
use Rattle.z_types.specs.Same.{is_same}
use Rattle.z_types.specs.declared.diagnostic.Diag.{Diag}
use Rattle.z_types.specs.declared.outcome.Fetched.{Fetched}
use Rattle.z_types.specs.declared.outcome.Fetched.TheVariants as fetched
use Rattle.z_types.specs.declared.outcome.Outcome.{Outcome}
use Rattle.z_types.specs.declared.records.Form.{Form}
use Rattle.z_types.specs.declared.records.Form.TheVariants.{Octets}
use Rattle.z_types.specs.declared.records.Item.{Item}
use Rattle.z_types.specs.declared.records.Item.TheVariants.{Record, Surrogate}
use Rattle.z_types.specs.declared.records.NamedRecord.{NamedRecord}
use Rattle.z_types.specs.declared.schemas.Schema.{Schema}
use Rattle.z_types.specs.declared.sru.SruAnswer.{SruAnswer}
use Rattle.z_types.specs.declared.sru.SruDiag.{SruDiag}
use Rattle.z_types.specs.declared.sru.SruItem.{SruItem}
use Rattle.z_types.specs.declared.sru.SruItem.TheVariants.{Data, Fault}
use Rattle.z_types.specs.declared.work.Work.{Work}
use Rattle.gateway_rules.specs.Settling.{why_failed, found_hits, fetched_of}
use Rattle.sru_request.specs.declared.query.SruQuery.{SruQuery}
use Rattle.sru_rules.specs.declared.retrieval.Retrieval.{Retrieval}
use Rattle.sru_rules.specs.Asking.{xml, fetched_count, fetch_work}
use Rattle.sru_rules.specs.Diagnostics.{out_of_range, not_in_schema, of_target}

-- ---- answers

-- a diagnostic in the place of records
abbrev pub refusal : SruDiag → SruAnswer
refusal diag = record {
  version = diag.version;
  escaped = false;
  count = 0;
  start = 1;
  uri = [];
  items = [];
  refused = Some diag;
}

-- the identifier of the schema that is asked for
abbrev pub uri_in : Option Schema → List ℕ
uri_in None = []
uri_in (Some schema) = schema.uri

-- so many records are found, and these are given
abbrev pub given : List Schema → SruQuery → (count : ℕ) → List SruItem → SruAnswer
given schemas asked count items = record {
  version = asked.version;
  escaped = asked.escaped;
  count = count;
  start = asked.start;
  uri = uri_in (slice_get schemas asked.schema);
  items = items;
  refused = None;
}

-- ---- records

-- a record in a form: XML stands as octets
abbrev pub data_in : (version syntax : List ℕ) → Form → (octets : List ℕ) → SruItem
data_in version syntax Octets octets =
    if is_same syntax xml then Data octets else Fault (not_in_schema version)
data_in version syntax other octets = Fault (not_in_schema version)

-- what stands for an item that a target gave
abbrev pub item_of : (version : List ℕ) → Item → SruItem
item_of version (Record syntax form octets) = data_in version syntax form octets
item_of version (Surrogate diag) = Fault (of_target version diag)

-- what stands for records
abbrev pub items_of : (version : List ℕ) → List NamedRecord → List SruItem
items_of version records = map (λ found. item_of version found.item) records

-- ---- what came of the fetch

-- the records that were fetched, or a diagnostic of all of them
abbrev pub with_records : List Schema → SruQuery → (count : ℕ) → Fetched → SruAnswer
with_records schemas asked count fetched.None = given schemas asked count []
with_records schemas asked count (fetched.Records records) =
    given schemas asked count (items_of asked.version records)
with_records schemas asked count (fetched.Whole diag) = refusal (of_target asked.version diag)

-- a diagnostic of a target or of a mark is the answer; else what follows
abbrev pub unless_failed : {A : Type 0} → (SruAnswer → A) → (version : List ℕ) → Option Diag → A → A
unless_failed answers version (Some diag) good = answers (refusal (of_target version diag))
unless_failed answers version None good = good

-- the answer by what came of the fetch
abbrev pub fetch_answer : List Schema → SruQuery → (count : ℕ) → Outcome → SruAnswer
fetch_answer schemas asked count got =
    unless_failed (λ answer. answer) asked.version (why_failed got)
    (with_records schemas asked count (fetched_of got))

-- ---- what came of the search

-- what follows the search: the answer, or a fetch
pub data Next : Type 0 where
  answered : SruAnswer → Next
  fetches : (hits : List ℕ) → Work → Next

-- the first record that is asked for lies behind the last, and behind the first
abbrev pub is_out_of_range : SruQuery → (count : ℕ) → Bool
is_out_of_range asked count = nat_lt (max count 1) asked.start

-- what follows these hits: 61, the answer where no record is to be given, or a fetch
abbrev pub after_hits : List Schema → Retrieval → (hits : List ℕ) → Next
after_hits schemas retrieval hits =
    let asked = retrieval.asked in
    if is_out_of_range asked (total hits)
    then answered (refusal (out_of_range asked.version asked.start))
    else if fetched_count asked (total hits) == 0
    then answered (given schemas asked (total hits) [])
    else fetches hits (fetch_work schemas retrieval hits)

-- what follows what came of the search
abbrev pub after_search : List Schema → Retrieval → Outcome → Next
after_search schemas retrieval got =
    unless_failed answered retrieval.asked.version (why_failed got)
    (after_hits schemas retrieval (found_hits got))

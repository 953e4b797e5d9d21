-- For contracts alone: the parts of what an outcome leaves (this project's own)
use Rattle.std.specs.Prelude.{◌≡◌, ◌≤◌, ◌+◌, ℕ, Bool, true, false, List, [], ◌∷◌, ◌++◌, is_none, Option, None, Some}
use Rattle.z_types.specs.declared.diagnostic.Diag.{Diag}
use Rattle.z_types.specs.declared.known_set.KnownSet.{KnownSet}
use Rattle.z_types.specs.declared.outcome.Fetched.{Fetched}
use Rattle.z_types.specs.declared.outcome.Fetched.TheVariants as fetched
use Rattle.z_types.specs.declared.outcome.Outcome.{Outcome}
use Rattle.z_types.specs.declared.replies.Reply.{Reply}
use Rattle.z_types.specs.declared.replies.Reply.TheVariants as reply
use Rattle.z_types.specs.declared.requests.Request.{Request}
use Rattle.z_types.specs.declared.requests.Request.TheVariants as request
use Rattle.z_types.specs.declared.scan.ScanAnswer.{ScanAnswer}
use Rattle.z_types.specs.declared.work.Work.{Work}
use Rattle.z_types.specs.declared.work.Work.TheVariants as work
use Rattle.z_sets.specs.Operands.{others_than}
use Rattle.gateway_rules.specs.Given.{search_reply, present_reply, returned}
use Rattle.gateway_rules.specs.Replies.{failed, init_answer, close_reply}
use Rattle.gateway_rules.specs.Settling.{why_failed, found_hits, fetched_of, scanned_of, fetched_from, asked_of, given_of, reply_by}
use Rattle.gateway_rules.specs.Cut.{cut_of}
use Rattle.gateway_rules.specs.declared.sizes.Sizes.{Sizes}
use Rattle.gateway_rules.specs.Statuses.{scan_success, finished}
use Rattle.gateway_rules.specs.Works.{FitsWork}
use Rattle.front_session.specs.Sessions.{SessionState, Waiting}
use Rattle.front_session.specs.Admitting.{IsSettled}
use Rattle.front_session.specs.declared.settle.Answer.{Answer}
use Rattle.front_session.specs.declared.settle.OutcomeParts.{OutcomeParts}
use Rattle.front_session.specs.declared.settle.CutParts.{CutParts}
use Rattle.front_session.specs.declared.settle.Pending.{Pending}

-- a request waits, and the outcome fits its work
abbrev pub FitsWaiting : Option Waiting → Outcome → Type 0
FitsWaiting None outcome = ⊥
FitsWaiting (Some waiting) outcome = FitsWork waiting.work outcome

-- the request that waited is settled
abbrev pub IsSettledBy : Option Waiting → SessionState → SessionState → Outcome → Reply → Type 0
IsSettledBy None old new outcome reply = ⊥
IsSettledBy (Some waiting) old new outcome reply = IsSettled old new waiting outcome reply

-- the parts of an outcome that is none but why the request fails
abbrev pub only_why : Option Diag → OutcomeParts
only_why why =
    record {
      why = why;
      hits = [];
      fetched = fetched.None;
      scanned = record { position = None; entries = [] };
    }

-- the reply to a request that did not fail, by the parts of its outcome, with what is given of
-- `all` records
abbrev pub good_reply_by : Request → Work → List ℕ → (all : ℕ) → Fetched → ScanAnswer → Reply
good_reply_by (request.Init init) work hits all records scanned = init_answer init true
good_reply_by (request.Search search) work hits all records scanned =
    search_reply search.ref_id hits all records
good_reply_by (request.Present present) work hits all records scanned =
    present_reply present (fetched_from work) all records
good_reply_by (request.Scan scan) work hits all records scanned =
    reply.Scan scan.ref_id scan_success scanned []
good_reply_by (request.Close close) work hits all records scanned =
    close_reply close.ref_id finished

-- the reply to a request, by the parts of its outcome
abbrev pub reply_of : Option Diag → Request → Work → (all : ℕ) → OutcomeParts → Reply
reply_of (Some diag) request work all parts = failed request diag
reply_of None request work all parts =
    good_reply_by request work parts.hits all parts.fetched parts.scanned

-- the reply to a request that waits
abbrev pub reply_by_parts : Pending → (all : ℕ) → OutcomeParts → Reply
reply_by_parts pending all parts = reply_of parts.why pending.request pending.work all parts

-- the reply to a request that waits and did not fail
abbrev pub good_reply_to : Pending → List ℕ → (all : ℕ) → Fetched → ScanAnswer → Reply
good_reply_to pending hits all records scanned =
    good_reply_by pending.request pending.work hits all records scanned

-- the parts of an outcome, with what is given of its records
pub record IsCutOf (sizes : Sizes) (work : Work) (parts : OutcomeParts)
    (cut : CutParts) : Type 0 where
  pub all : cut.all ≡ returned parts.fetched
  pub why : cut.parts.why ≡ parts.why
  pub hits : cut.parts.hits ≡ parts.hits
  pub scanned : cut.parts.scanned ≡ parts.scanned
  pub fetched : cut.parts.fetched ≡ cut_of sizes (asked_of work parts.hits) parts.fetched
  pub fewer : returned cut.parts.fetched ≤ returned parts.fetched

-- the parts of an outcome, each empty where it has no such part
pub record ArePartsOf (outcome : Outcome) (parts : OutcomeParts) : Type 0 where
  pub why : parts.why ≡ why_failed outcome
  pub hits : parts.hits ≡ found_hits outcome
  pub fetched : parts.fetched ≡ fetched_of outcome
  pub scanned : parts.scanned ≡ scanned_of outcome

-- the sets after a Search with the hits that it found: a good one sets its name, and one that
-- failed removes it
abbrev pub known_after : (is_good : Bool) → List ℕ → Work → List ℕ → List KnownSet → List KnownSet
known_after true name (work.Search login legs query small large medium small_element medium_element
    syntax room) hits sets =
    others_than name sets ++ (record { name = name; legs = legs; query = query; hits = hits }) ∷ []
known_after true name other hits sets = sets
known_after false name work hits sets = others_than name sets

-- the name that a Search sets
abbrev pub set_name_of : Request → Option (List ℕ)
set_name_of (request.Search search) = Some search.set_name
set_name_of other = None

-- the sets behind a request that sets this name, if any
abbrev pub sets_under : Option (List ℕ) → Work → (is_good : Bool) → List ℕ → List KnownSet
    → List KnownSet
sets_under (Some name) work is_good hits sets = known_after is_good name work hits sets
sets_under None work is_good hits sets = sets

-- the sets behind a request with its outcome: a Search changes them
abbrev pub sets_behind : Request → Work → (is_good : Bool) → List ℕ → List KnownSet → List KnownSet
sets_behind asked work is_good hits sets = sets_under (set_name_of asked) work is_good hits sets

abbrev pub sets_ended : Pending → (is_good : Bool) → List ℕ → List KnownSet → List KnownSet
sets_ended pending is_good hits sets = sets_behind pending.request pending.work is_good hits sets

-- the searches spent behind a request
abbrev pub searches_behind : Request → ℕ → ℕ
searches_behind (request.Search search) searches = searches + 1
searches_behind other searches = searches

-- what is kept behind a request that was settled
abbrev pub ended : SessionState → Pending → (is_good : Bool) → List ℕ → ℕ → SessionState
ended s pending is_good hits given = record s {
  records = s.records + given;
  searches = searches_behind pending.request s.searches;
  sets = sets_ended pending is_good hits s.sets;
}

-- what is answered to a request that waited, and what is kept of its outcome
pub record IsAnswered (sizes : Sizes) (pending : Pending) (outcome : Outcome)
    (answer : Answer) : Type 0 where
  pub reply : answer.reply
      ≡ reply_by sizes (why_failed outcome) pending.request pending.work outcome
  pub is_good : answer.is_good ≡ is_none (why_failed outcome)
  pub hits : answer.hits ≡ found_hits outcome
  pub given : answer.given ≡ returned (given_of sizes pending.work outcome)

-- the reply to a request that waited, and what is kept behind it
pub record IsSettledWith (old new : SessionState) (pending : Pending) (outcome : Outcome)
    (reply : Reply) : Type 0 where
  pub reply-is : reply
      ≡ reply_by old.agreed.sizes (why_failed outcome) pending.request pending.work outcome
  pub new-is : new ≡ ended old pending (is_none (why_failed outcome)) (found_hits outcome)
      (returned (given_of old.agreed.sizes pending.work outcome))

-- What a session with a target answers, and what it has made (this project's own)
use Rattle.std.specs.Prelude.{◌≡◌, ◌⊎◌, ℕ, ◌≤◌, Bool, true, false, List, length, Option, None, Some, Ok, Err, if◌then◌else◌}
use Rattle.z_types.specs.Bounds.{most_number}
use Rattle.z_types.specs.Pending.{Pending, resting, opening, asked, broken}
use Rattle.z_types.specs.declared.address.Address.{Address}
use Rattle.z_types.specs.declared.ask.Ask.{Ask}
use Rattle.z_types.specs.declared.ask.Ask.TheVariants.{Search, Present, Scan}
use Rattle.z_types.specs.declared.key.SetKey.{SetKey}
use Rattle.z_types.specs.declared.sitting.Sitting as sitting
use Rattle.z_types.specs.declared.world.World as world
use Rattle.gw_outside.specs.declared.backends.Opening.{Opening}
use Rattle.gw_outside.specs.declared.backends.Opening.TheVariants as opened
use Rattle.gw_outside.specs.declared.backends.Began.{Began}
use Rattle.gw_outside.specs.declared.backends.Began.TheVariants as began
use Rattle.gw_outside.specs.declared.backends.Heard.{Heard}
use Rattle.gw_outside.specs.declared.backends.Heard.TheVariants.{Opened, Hits, Refused, Items, Gone, Scanned, NotYet, Failed, Memory}
use Rattle.gw_outside.specs.Counts.{Counts, Counted, BackendCounts, nothing}
use Rattle.gw_outside.specs.Happened.{Happened, AreSame, AreLess}
use Rattle.z_types.specs.Same.{is_same}
use Rattle.gw_outside.specs.Peers.{AreRecords}

-- the result sets of a session: for each name the key and the hits of the last search under it that
-- was answered, where it succeeded
abbrev pub Made : Type 0
Made = List ℕ → Option (SetKey × ℕ)

-- ---- what fits

-- a good answer to an ask: hits that are a count, at least one record and no more than asked for,
-- or entries
abbrev pub AnswerFits : Ask → Heard → Type 0
AnswerFits (Search name key) (Hits hits) = hits ≤ most_number
AnswerFits (Search name key) (Refused diag) = Unit {0}
AnswerFits (Present name first count syntax element) (Items items) =
    (1 ≤ length items) × (length items ≤ count)
AnswerFits (Present name first count syntax element) (Refused diag) = Unit {0}
AnswerFits (Present name first count syntax element) Gone = Unit {0}
AnswerFits (Scan dbs ask) (Scanned answer) = Unit {0}
AnswerFits (Scan dbs ask) (Refused diag) = Unit {0}
AnswerFits ask answer = ⊥

-- an answer fits what is pending; no reply yet, a failure and want of memory fit all
abbrev pub Fits : Pending → Heard → Type 0
Fits p NotYet = Unit {0}
Fits p Failed = Unit {0}
Fits p Memory = Unit {0}
Fits opening Opened = Unit {0}
Fits (asked ask) answer = AnswerFits ask answer
Fits p answer = ⊥

-- ---- what is true at a told address

module _ {W : Type 0} (w : world.Ghosts W) (address : Address) where
  -- the records of a set that was made, from the first that was asked for
  abbrev pub RecordsOf : Option (SetKey × ℕ) → Option (List ℕ) → Option (List ℕ) → ℕ
      → Heard → Type 0
  RecordsOf None syntax element first answer = Unit {0}
  RecordsOf (Some set) syntax element first (Items items) =
      AreRecords (λ position. w.record_ address set.0 position syntax element) first items
  RecordsOf (Some set) syntax element first (Refused diag) =
      w.record_ address set.0 first syntax element ≡ Err diag
  RecordsOf (Some set) syntax element first answer = Unit {0}

  -- the answer is the world's
  abbrev pub IsWorlds : Made → Pending → Heard → Type 0
  IsWorlds made (asked (Search name key)) (Hits hits) = w.search address key ≡ Ok hits
  IsWorlds made (asked (Search name key)) (Refused diag) = w.search address key ≡ Err diag
  IsWorlds made (asked (Present name first count syntax element)) answer =
      RecordsOf (made name) syntax element first answer
  IsWorlds made (asked (Scan dbs ask)) (Scanned answer) = w.scan address dbs ask ≡ Ok answer
  IsWorlds made (asked (Scan dbs ask)) (Refused diag) = w.scan address dbs ask ≡ Err diag
  IsWorlds made p answer = Unit {0}

-- ---- how a session goes on

-- an ask that was begun is pending; a session whose call failed is broken
abbrev pub pending_from : Ask → Began → Pending
pending_from ask began.Started = asked ask
pending_from ask began.Failed = broken
pending_from ask began.Memory = broken

-- after an answer a session rests; where there is no reply yet it waits on
abbrev pub pending_after : Pending → Heard → Pending
pending_after p NotYet = p
pending_after p Failed = broken
pending_after p Memory = broken
pending_after p answer = resting

-- what stands under a name after the answer to a search under it
abbrev pub made_by : SetKey → Heard → Option (SetKey × ℕ) → Option (SetKey × ℕ)
made_by key (Hits hits) before = Some (key, hits)
made_by key (Refused diag) before = None
made_by key answer before = before

-- what stands under each name
abbrev pub made_after : Pending → Heard → Made → Made
made_after (asked (Search own key)) answer made name =
    if is_same own name then made_by key answer (made name) else made name
made_after p answer made name = made name

-- ---- a new session

-- of a session that was opened
abbrev pub IfSession : {S : Type 0} → Opening S → (S → Type 0) → Type 0
IfSession (opened.Session session) P = P session
IfSession (opened.Failed linked) P = Unit {0}
IfSession opened.Memory P = Unit {0}

-- it waits for the reply to its Init, and made no set
pub record IsNewSession {S W : Type 0} (t : sitting.Ghosts S W) (address : Address)
    (session : S) : Type 0 where
  pub same_address : t.address session ≡ address
  pub pending : t.pending session ≡ opening
  pub made : (name : List ℕ) → t.made session name ≡ None

-- ---- what counts

-- an opening: one that got a link, and one that failed
abbrev pub open_counted : {S : Type 0} → Opening S → Counted
open_counted (opened.Session session) = record nothing { dial = true }
open_counted (opened.Failed linked) = record nothing { fault = true; dial = linked }
open_counted opened.Memory = nothing

-- of one that found no memory it is not said whether it got a link
abbrev pub OpenCounts : {S : Type 0} → Bool → Opening S → Counts → Counts → Type 0
OpenCounts exact opened.Memory old new =
    BackendCounts exact (Unit {0}) nothing old new
    ⊎ BackendCounts exact (Unit {0}) (record nothing { dial = true }) old new
OpenCounts exact answer old new = BackendCounts exact (Unit {0}) (open_counted answer) old new

-- what is made to happen stays, where memory sufficed
abbrev pub OpenHappens : {S : Type 0} → Opening S → Happened → Happened → Type 0
OpenHappens opened.Memory old new = AreLess old new
OpenHappens answer old new = AreSame old new

abbrev pub is_search : Ask → Bool
is_search (Search name key) = true
is_search (Present name first count syntax element) = false
is_search (Scan dbs ask) = false

-- an ask: a search that was begun, and one that failed
abbrev pub start_counted : Ask → Began → Counted
start_counted ask began.Started = record nothing { search = is_search ask }
start_counted ask began.Failed = record nothing { fault = true }
start_counted ask began.Memory = nothing

-- a look: one that heard nothing yet, one that heard that a set is gone, and one that failed
abbrev pub heard_counted : Heard → Counted
heard_counted NotYet = record nothing { wait = true }
heard_counted Gone = record nothing { gone = true }
heard_counted Failed = record nothing { fault = true }
heard_counted answer = nothing

-- of one that found no memory it is not said whether a reply had come that says that a set is gone
abbrev pub LookCounts : Bool → Type 0 → Heard → Counts → Counts → Type 0
LookCounts exact told Memory old new =
    BackendCounts exact told nothing old new
    ⊎ BackendCounts exact told (record nothing { gone = true }) old new
LookCounts exact told answer old new = BackendCounts exact told (heard_counted answer) old new

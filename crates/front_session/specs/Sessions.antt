-- What is kept of a client between its requests (this project's own)
use Rattle.std.specs.Prelude.{◌≡◌, ◌<◌, ◌≤◌, ◌+◌, ◌^◌, ℕ, Bool, false, List, [], map, length, All, Option, None, Some, IfSome, if◌then◌else◌}
use Rattle.z_types.specs.declared.known_set.KnownSet.{KnownSet}
use Rattle.z_types.specs.declared.requests.Request.{Request}
use Rattle.z_types.specs.declared.work.Work.{Work}
use Rattle.z_types.specs.declared.work.Work.TheVariants as work
use Rattle.z_sets.specs.Askable.{IsAskableQuery}
use Rattle.z_sets.specs.Sets.{stored}
use Rattle.limit_rules.specs.declared.spent.Spent.{Spent}
use Rattle.z_types.specs.Bounds.{most_legs}
use Rattle.unit_forms.specs.Logins.{IsLoginIf}
use Rattle.access_rules.specs.declared.who.Who.{Who}
use Rattle.gateway_rules.specs.State.{ClientState, Progress, no_agreement}
use Rattle.gateway_rules.specs.declared.agreement.Agreement.{Agreement}
use Rattle.gateway_rules.specs.Works.{CanBegin, IsAskable}

-- a request that waits for what comes of its work
pub record Waiting : Type 0 where
  pub request : Request
  pub work : Work

-- whether an Init was accepted, how many units were taken, what the Init settled, the searches and
-- records spent, the sets with their hits, and the request that waits
pub record SessionState : Type 0 where
  pub accepted : Bool
  pub units : ℕ
  pub agreed : Agreement
  pub searches : ℕ
  pub records : ℕ
  pub sets : List KnownSet
  pub waiting : Option Waiting

-- a client that has sent nothing
abbrev pub new_session : SessionState
new_session = record {
  accepted = false;
  units = 0;
  agreed = no_agreement;
  searches = 0;
  records = 0;
  sets = [];
  waiting = None;
}

-- what the answers have left with the client
abbrev pub client_of : SessionState → ClientState
client_of s = record {
  agreed = s.agreed;
  searches = s.searches;
  records = s.records;
  sets = map stored s.sets;
}

-- whose it is, once an Init was accepted
abbrev pub whose_of : SessionState → Option Who
whose_of s = if s.accepted then Some s.agreed.whose else None

-- how far its units have come, where the next one is at this offset
abbrev pub progress_of : ℕ → SessionState → Progress
progress_of at s = record { at = at; accepted = s.accepted; units = s.units }

-- what it has used of the limits
abbrev pub spent_of : SessionState → Spent
spent_of s =
    record { units = s.units; searches = s.searches; records = s.records; sets = length s.sets }

-- ---- what a session keeps

-- A set has hits of each of its legs, which are not too many. Targets may be asked for its query:
-- no operand is a result set, its numbers are within their range, and it is within the bounds of
-- queries.
pub record IsKeptSet (set : KnownSet) : Type 0 where
  pub few : length set.legs ≤ most_legs
  pub each : length set.hits ≡ length set.legs
  pub query : IsAskableQuery set.query

-- after `records` records, those of a work can be counted by a number of 32 bits
abbrev pub HasRoomFor : ℕ → Work → Type 0
HasRoomFor records
    (work.Search login legs query small large medium small_element medium_element syntax room) =
    records + room < 2 ^ 32
HasRoomFor records (work.Fetch login legs query hits first count syntax element) =
    records + count < 2 ^ 32
HasRoomFor records (work.Scan login leg ask) = Unit {0}

-- a work that waits can begin, its legs may be asked for it, a Search that waits can be counted,
-- and so can the records
pub record CanWait (s : SessionState) (waiting : Waiting) : Type 0 where
  pub begins : CanBegin waiting.work
  pub asks : IsAskable waiting.work
  pub searches : s.searches < s.units
  pub records : HasRoomFor s.records waiting.work

-- each search took a unit, and each set a search; units and records are numbers of 32 bits; the
-- login is one
pub record IsKept (s : SessionState) : Type 0 where
  pub sets : All IsKeptSet s.sets
  pub of_searches : length s.sets ≤ s.searches
  pub of_units : s.searches ≤ s.units
  pub units : s.units < 2 ^ 32
  pub login : IsLoginIf s.agreed.login
  pub records : s.records < 2 ^ 32
  pub waiting : IfSome s.waiting (CanWait s)

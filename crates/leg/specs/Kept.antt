-- What holds of a leg from turn to turn (this project's own)
use Rattle.std.specs.Prelude.{◌≡◌, ℕ, ◌+◌, ◌<◌, ◌≤◌, Bool, true, false, is_some, if◌then◌else◌, List, [], length, Contains, Option, None, Some}
use Rattle.z_types.specs.Pending.{Pending, resting, opening, asked}
use Rattle.z_types.specs.declared.ask.Ask.{Ask}
use Rattle.z_types.specs.declared.ask.Ask.TheVariants as ask
use Rattle.z_types.specs.declared.key.SetKey.{SetKey}
use Rattle.z_types.specs.declared.records.Item.{Item}
use Rattle.z_types.specs.declared.sitting.Sitting as sitting
use Rattle.z_types.specs.declared.world.World as world
use Rattle.unit_forms.specs.Logins.{IsLoginIf}
use Rattle.gw_outside.specs.Peers.{AreRecords}
use Rattle.pool_sets.specs.Doors.{HasSet, LacksWanted}
use Rattle.pool_sets.specs.Entries.{IsRoom}
use Rattle.pool_sets.specs.Kept.{slot_name, TableKept}
use Rattle.pool_sets.specs.Table.{set_of}
use Rattle.route_config.specs.declared.route.PoolNumbers.{PoolNumbers}
use Rattle.leg.specs.declared.accounts.Account.{Account}
use Rattle.leg.specs.declared.phases.Held.{Held}
use Rattle.leg.specs.declared.phases.Phase.{Phase}
use Rattle.leg.specs.declared.phases.Phase.TheVariants.{Begin, Dialling, Dialled, Ready, Searching, Presenting, Fetching, Scanning, Returning, Losing, Redialling, Spoiled, Done, Ended}
use Rattle.leg.specs.declared.tasks.Task.{Task}
use Rattle.leg.specs.declared.tasks.Task.TheVariants.{Records, Scan}
use Rattle.leg.specs.Phases.{looks_of}
use Rattle.leg.specs.Right.{AnswerFits, IsRight, IsRightAt, IsCaused}
use Rattle.leg.specs.Rules.{next_ask}
use Rattle.leg.specs.Tasks.{want_of, MayDo}
use Rattle.leg.specs.Terms.{Terms, sites}

-- ---- what its type keeps of its session

module _ {W S : Type 0} (w : world.Ghosts W) (t : sitting.Ghosts S W) where
  -- what the session waits for; its sets are kept
  pub record IsHeld (pending : Pending) (held : Held S) : Type 0 where
    pub waits : t.pending held.parts.session ≡ pending
    pub kept : TableKept w t held.parts

  -- fewer records than were asked for, which are the world's from the first on where the address is
  -- told; no task but that has any
  abbrev pub ItemsKept : Task → Held S → List Item → Type 0
  ItemsKept (Records key first count syntax element) held items =
      (length items < count)
      × (w.told held.parts.address
      → AreRecords
      (λ position. w.record_ held.parts.address key position syntax element) first items)
  ItemsKept task held items = items ≡ []

  -- the set that is wanted is to be searched for: the session does not hold it
  pub record IsBefore (pending : Pending) (task : Task) (held : Held S) : Type 0 where
    pub is_held : IsHeld pending held
    pub lacks : LacksWanted (want_of task) held.parts.table

  -- a search of the leg's own key is awaited, under the name of a slot that no set has
  pub record IsSearching (task : Task) (held : Held S) (slot : ℕ) : Type 0 where
    pub key : SetKey
    pub wants : want_of task ≡ Some key
    pub asks : IsHeld (asked (ask.Search (slot_name slot) key)) held
    pub room : IsRoom held.parts.table slot
    pub lacks : set_of key held.parts.table ≡ None

  -- the slot has the set of the leg's own key, with all the records that are asked for
  abbrev pub HasOwnSet : Task → Held S → (slot hits : ℕ) → Type 0
  HasOwnSet (Records key first count syntax element) held slot hits =
      HasSet held.parts.table.entries slot key hits × (first + count ≤ hits + 1)
  HasOwnSet task held slot hits = ⊥

  -- the records that are left are awaited
  abbrev pub IsFetching : Option Ask → Held S → Type 0
  IsFetching None held = ⊥
  IsFetching (Some due) held = IsHeld (asked due) held

  -- what is kept of the session
  abbrev pub SessionKept : Task → Phase S → Type 0
  SessionKept task (Dialled held looks) = IsBefore opening task held
  SessionKept task (Ready held items) = IsBefore resting task held × ItemsKept task held items
  SessionKept task (Searching held items slot looks) =
      IsSearching task held slot × ItemsKept task held items
  SessionKept task (Presenting held items slot hits) =
      IsHeld resting held × ItemsKept task held items × HasOwnSet task held slot hits
  SessionKept task (Fetching held items slot hits looks) =
      IsFetching (next_ask task items slot) held × ItemsKept task held items
      × HasOwnSet task held slot hits
  SessionKept task (Scanning held looks) = TableKept w t held.parts
  SessionKept task (Returning held answer) = IsHeld resting held × AnswerFits task answer
  SessionKept task (Losing seat answer) = AnswerFits task answer
  SessionKept task (Done answer) = AnswerFits task answer
  SessionKept task phase = Unit {0}

-- ---- what its type keeps of its account

-- what may still be counted: searches that were booked or follow a Gone or a fault; addresses that
-- were named and not dialled, and of these the one that is dialled next; faults; addresses that are
-- named; and takes
pub record Ahead : Type 0 where
  pub searches : ℕ
  pub unused : ℕ
  pub dials : ℕ
  pub faults : ℕ
  pub opens : ℕ
  pub takes : ℕ

abbrev pub nothing_ahead : Ahead
nothing_ahead = record { searches = 0; unused = 0; dials = 0; faults = 0; opens = 0; takes = 0 }

-- one search, where a set is wanted
abbrev pub one_if : Bool → ℕ
one_if true = 1
one_if false = 0

-- with a session: one from the pool that has not replied may fail and be dialled again
abbrev pub ahead_with : (searches : ℕ) → (given : Bool) → Ahead
ahead_with searches given =
    record nothing_ahead
    { searches = searches; faults = if given then 2 else 1; opens = if given then 1 else 0 }

module _ {S : Type 0} where
  abbrev pub ahead_of : Option SetKey → Phase S → Ahead
  ahead_of want Begin = record nothing_ahead { faults = 2; opens = 1; takes = 1 }
  ahead_of want (Dialling seat member) =
      record nothing_ahead { searches = one_if (is_some want); unused = 1; dials = 1; faults = 1 }
  ahead_of want (Dialled held looks) = ahead_with (one_if (is_some want)) held.given
  ahead_of want (Ready held items) = ahead_with (one_if (is_some want)) held.given
  ahead_of want (Searching held items slot looks) = ahead_with 0 held.given
  ahead_of want (Presenting held items slot hits) = ahead_with 0 held.given
  ahead_of want (Fetching held items slot hits looks) = ahead_with 0 held.given
  ahead_of want (Scanning held looks) = ahead_with 0 held.given
  ahead_of want (Redialling seat) =
      record nothing_ahead { searches = one_if (is_some want); faults = 1; opens = 1 }
  ahead_of want (Returning held answer) = nothing_ahead
  ahead_of want (Losing seat answer) = nothing_ahead
  ahead_of want (Done answer) = nothing_ahead
  ahead_of want (Spoiled seat) = record nothing_ahead { unused = 1 }
  ahead_of want Ended = record nothing_ahead { unused = 1 }

-- the account with what may still be counted is within its bounds, and it knows of the looks that
-- have heard nothing
pub record AccountKept (ahead : Ahead) (looks : ℕ) (a : Account) : Type 0 where
  pub searches : a.searches + ahead.searches ≤ a.booked + a.gones + a.faults
  pub opens : a.opens ≤ a.dials + a.faults + ahead.unused
  pub dials : a.dials + ahead.dials ≤ a.opens
  pub one_open : a.opens + ahead.opens ≤ 1
  pub two_faults : a.faults + ahead.faults ≤ 2
  pub spent : a.spent ≤ a.faults
  pub one_full : a.fulls + ahead.takes ≤ 1
  pub one_booked : a.booked + ahead.takes ≤ 1
  pub most_looks : looks ≤ a.looks

-- what the type of a leg keeps of its task, its session and its account
pub record LegKept {W S : Type 0} (w : world.Ghosts W) (t : sitting.Ghosts S W) (task : Task)
    (phase : Phase S) (a : Account) : Type 0 where
  pub may : MayDo task
  pub session : SessionKept w t task phase
  pub account : AccountKept (ahead_of (want_of task) phase) (looks_of phase) a

-- what the type of a leg keeps
pub record IsKeptLeg {W S : Type 0} (w : world.Ghosts W) (t : sitting.Ghosts S W)
    (login : Option (List ℕ)) (task : Task) (phase : Phase S) (a : Account) : Type 0 where
  pub login_is : IsLoginIf login
  pub kept : LegKept w t task phase a

-- ---- what holds where its turns are given one route

module _ {S : Type 0} where
  -- whether one more Gone or look may be met
  abbrev pub may_wait : Phase S → ℕ
  may_wait Begin = 0
  may_wait (Returning held answer) = 0
  may_wait (Losing seat answer) = 0
  may_wait (Spoiled seat) = 0
  may_wait (Done answer) = 0
  may_wait Ended = 0
  may_wait phase = 1

-- no Gone was met, and no look was in vain
pub record IsFirst (a : Account) : Type 0 where
  pub gones : a.gones ≡ 0
  pub looks : a.looks ≡ 0

-- one Gone more than are repeated is the last, and the patience ends with as many looks
pub record IsWithin {S : Type 0} (pool : PoolNumbers) (phase : Phase S) (a : Account) : Type 0 where
  pub gones : a.gones + may_wait phase ≤ pool.repeats + 1
  pub looks : a.looks + may_wait phase ≤ pool.patience

module _ {W S : Type 0} (w : world.Ghosts W) (t : sitting.Ghosts S W) (terms : Terms) where
  -- the session is at one of the addresses, inside the login
  abbrev pub IsAmong : Held S → Type 0
  IsAmong held = Contains (sites terms) held.parts.address

  -- the leg's own scan is awaited
  abbrev pub IsScanning : Task → Held S → Type 0
  IsScanning (Scan scan) held = t.pending held.parts.session ≡ asked (ask.Scan terms.dbs scan)
  IsScanning task held = ⊥

  -- where it stands, and that its answer is right and caused
  abbrev pub StandsAt : (most : ℕ) → Task → Phase S → Account → Type 0
  StandsAt most task Begin a = IsFirst a
  StandsAt most task (Dialling seat member) a = member < length terms.at
  StandsAt most task (Dialled held looks) a = IsAmong held
  StandsAt most task (Ready held items) a = IsAmong held
  StandsAt most task (Searching held items slot looks) a = IsAmong held
  StandsAt most task (Presenting held items slot hits) a = IsAmong held
  StandsAt most task (Fetching held items slot hits looks) a = IsAmong held
  StandsAt most task (Scanning held looks) a = IsAmong held × IsScanning task held
  StandsAt most task (Returning held answer) a =
      IsAmong held × IsRightAt w terms.dbs task held.parts.address answer
      × IsCaused terms.pool most a answer
  StandsAt most task (Losing seat answer) a =
      IsRight w terms task answer × IsCaused terms.pool most a answer
  StandsAt most task (Done answer) a =
      IsRight w terms task answer × IsCaused terms.pool most a answer × (a.class ≡ terms.class)
  StandsAt most task phase a = Unit {0}

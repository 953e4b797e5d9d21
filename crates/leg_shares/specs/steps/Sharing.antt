-- For contracts alone: where a leg stands that shares the session of its class and login, over a
-- told pool that uses left so (this project's own). All of it goes on at one moment, and nothing
-- goes wrong: a leg that lost its session shares none
use Rattle.std.specs.Prelude.{◌≡◌, ◌≢◌, ℕ, ◌<◌, true, false, List, ◌∷◌, length, is_some, Option, Some}
use Rattle.z_types.specs.Pending.{opening, asked}
use Rattle.z_types.specs.Logins.{same_login}
use Rattle.z_types.specs.declared.ask.Ask.{Ask}
use Rattle.z_types.specs.declared.ask.Ask.TheVariants as ask
use Rattle.z_types.specs.declared.key.SetKey.{SetKey}
use Rattle.z_types.specs.declared.sitting.Sitting as sitting
use Rattle.z_types.specs.declared.world.World as world
use Rattle.route_config.specs.declared.route.Route.{Route}
use Rattle.pool_sets.specs.Doors.{LacksWanted}
use Rattle.pool_sets.specs.Plain.{Pool}
use Rattle.pool_sets.specs.Table.{empty_table, is_free}
use Rattle.pool_sets.specs.declared.doors.Seat.{Seat}
use Rattle.leg.specs.Kept.{one_if}
use Rattle.leg.specs.Tasks.{want_of}
use Rattle.leg.specs.Terms.{members_of}
use Rattle.leg.specs.declared.accounts.Account.{Account}
use Rattle.leg.specs.declared.answers.Turned.{Turned}
use Rattle.leg.specs.declared.answers.Turned.TheVariants as turned
use Rattle.leg.specs.declared.phases.Held.{Held}
use Rattle.leg.specs.declared.phases.Phase.{Phase}
use Rattle.leg.specs.declared.phases.Phase.TheVariants.{Begin, Dialling, Dialled, Ready, Searching, Presenting, Fetching, Scanning, Returning, Done}
use Rattle.leg.specs.declared.tasks.Task.{Task}
use Rattle.leg.specs.declared.tasks.Task.TheVariants.{Records}
use Rattle.sharing_rules.specs.Sharers.{Sharers}
use Rattle.sharing_rules.specs.Uses.{Use}
use Rattle.leg_shares.specs.steps.Pools.{IsPoolOf, LeavesRest}
use Rattle.sharing_rules.specs.steps.Shared.{AreKept, HoldsUsed, IsLent, IsOutWith, dial_due, search_due, shared_by, use_now}

-- a turn had memory, and up to it no call of the leg failed, no look was in vain and no set was
-- gone
pub record WentOn (answer : Turned) (account : Account) : Type 0 where
  pub memory : answer ≢ turned.Memory
  pub faults : account.faults ≡ 0
  pub gones : account.gones ≡ 0
  pub looks : account.looks ≡ 0

-- ---- what it waits for

-- the reply to such an ask is awaited
pub record Awaits {W S : Type 0} (t : sitting.Ghosts S W) (IsSo : Ask → Type 0)
    (session : S) : Type 0 where
  pub asks : Ask
  pub waits : t.pending session ≡ asked asks
  pub is_so : IsSo asks

-- a search of the set that is wanted
abbrev pub IsOwnSearch : Option SetKey → Ask → Type 0
IsOwnSearch (Some key) (ask.Search name own) = own ≡ key
IsOwnSearch want asks = ⊥

-- a Present, where records are wanted
abbrev pub IsOwnPresent : Task → Ask → Type 0
IsOwnPresent (Records key first count syntax element) (ask.Present name from most form set) =
    Unit {0}
IsOwnPresent task asks = ⊥

abbrev pub IsScan : Ask → Type 0
IsScan (ask.Scan dbs scan) = Unit {0}
IsScan asks = ⊥

-- ---- what it needs

-- the uses of a class behind a leg's own
abbrev pub with_use : (who : Sharers) (now : ℕ) → (before : List Use) → Task → List Use
with_use who now before task = use_now who now (want_of task) ∷ before

module _ {S : Type 0} where
  -- the dials that a leg has had: that which its use needs, once the session is dialled
  abbrev pub dials_by : Route → (who : Sharers) (now : ℕ) → (before : List Use) → Phase S → ℕ
  dials_by route who now before Begin = 0
  dials_by route who now before (Dialling seat member) = 0
  dials_by route who now before phase = one_if (dial_due route who now before)

  -- and the searches: that which its use needs, once it is sent
  abbrev pub searches_by : {W : Type 0} → world.Ghosts W → Route → (who : Sharers) (now : ℕ)
      → (before : List Use) → Option SetKey → Phase S → ℕ
  searches_by w route who now before want Begin = 0
  searches_by w route who now before want (Dialling seat member) = 0
  searches_by w route who now before want (Dialled held looks) = 0
  searches_by w route who now before want (Ready held items) = 0
  searches_by w route who now before want phase =
      one_if (search_due w route who now before want)

-- ---- where it stands

module _ {W S : Type 0} (w : world.Ghosts W) (route : Route) (who : Sharers) (now : ℕ) where
  -- the class is kept behind these uses under the leg's login
  abbrev pub IsKeptBehind : List Use → Pool S → Type 0
  IsKeptBehind uses pool =
      AreKept w route who (members_of route who.class) now uses (shared_by who pool.sessions)

  -- under each other login too
  abbrev pub AreOthersKept : List Use → Pool S → Type 0
  AreOthersKept uses pool =
      (login : Option (List ℕ)) → same_login login who.login ≡ false
      → AreKept w route (record { class = who.class; login = login })
      (members_of route who.class) now uses
      (shared_by (record { class = who.class; login = login }) pool.sessions)

  -- their one session is out for the leg, with what these uses left in its table
  abbrev pub IsOutBehind : List Use → Held S → Pool S → Type 0
  IsOutBehind uses held pool =
      IsOutWith w route who (members_of route who.class) now uses held.seat held.parts pool.sessions

  -- they have no session, and so one is dialled for the leg
  pub record IsToDial (before : List Use) (want : Option SetKey) (seat : Seat) (member : ℕ)
      (pool : Pool S) : Type 0 where
    pub own : seat.class ≡ who.class
    pub out : IsLent who seat pool.sessions
    pub place : member < length (members_of route who.class)
    pub holds : HoldsUsed w route who now before (empty_table route.pool.sets_max)
    pub dial : dial_due route who now before ≡ true
    pub search : search_due w route who now before want ≡ is_some want

module _ {W S : Type 0} (w : world.Ghosts W) (t : sitting.Ghosts S W) (route : Route)
    (who : Sharers) (now : ℕ) (before : List Use) where
  -- it holds no set that is wanted, which is then to be searched for
  pub record IsBeforeUse (want : Option SetKey) (held : Held S) (pool : Pool S) : Type 0 where
    pub out : IsOutBehind w route who now before held pool
    pub address : t.address held.parts.session ≡ held.parts.address
    pub lacks : LacksWanted want held.parts.table
    pub search : search_due w route who now before want ≡ is_some want

  -- the set is searched for under a slot that no other has
  pub record IsInSearch (want : Option SetKey) (held : Held S) (slot : ℕ)
      (pool : Pool S) : Type 0 where
    pub session : IsBeforeUse want held pool
    pub free : is_free held.parts.table.entries slot ≡ true
    pub awaits : Awaits t (IsOwnSearch want) held.parts.session

  module _ (task : Task) where
    -- the table is as the uses left it, the leg's own too
    abbrev pub IsUsed : Held S → Pool S → Type 0
    IsUsed held pool = IsOutBehind w route who now (with_use who now before task) held pool

    -- before the take the class is kept, and once its session is put back it is kept with the use;
    -- in between the leg has it
    abbrev pub StandsBy : Phase S → Pool S → Type 0
    StandsBy Begin pool = IsKeptBehind w route who now before pool
    StandsBy (Dialling seat member) pool =
        IsToDial w route who now before (want_of task) seat member pool
    StandsBy (Dialled held looks) pool =
        IsBeforeUse (want_of task) held pool × (t.pending held.parts.session ≡ opening)
    StandsBy (Ready held items) pool = IsBeforeUse (want_of task) held pool
    StandsBy (Searching held items slot looks) pool = IsInSearch (want_of task) held slot pool
    StandsBy (Presenting held items slot hits) pool = IsUsed held pool
    StandsBy (Fetching held items slot hits looks) pool =
        IsUsed held pool × Awaits t (IsOwnPresent task) held.parts.session
    StandsBy (Scanning held looks) pool = IsUsed held pool × Awaits t IsScan held.parts.session
    StandsBy (Returning held answer) pool = IsUsed held pool
    StandsBy (Done answer) pool =
        IsKeptBehind w route who now (with_use who now before task) pool
    StandsBy phase pool = ⊥

    -- a leg stands so, and had no more and no fewer dials and searches than its use needs
    pub record Shares (phase : Phase S) (account : Account) (pool : Pool S) : Type 0 where
      pub stands : StandsBy phase pool
      pub dials : account.dials ≡ dials_by route who now before phase
      pub searches : account.searches ≡ searches_by w route who now before (want_of task) phase

    -- so behind a turn over a pool that is told, which left the sessions of others
    pub record SharesThen (phase : Phase S) (account : Account) (old : Pool S)
        (after : Option (Pool S)) : Type 0 where
      pub pool : Pool S
      pub told : after ≡ Some pool
      pub of : IsPoolOf route pool
      pub shares : Shares phase account pool
      pub others : LeavesRest route who now old pool

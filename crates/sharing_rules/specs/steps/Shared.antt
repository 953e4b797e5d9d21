-- What a pool keeps of an orderly script whenever no request is in work (this project's own): of
-- each class and login at most one session, idle since the class was last used under that login,
-- with the sets that were used lately. Uses stand with the last one first.
use Rattle.std.specs.Prelude.{◌≡◌, ℕ, ◌≤◌, nat_eq, true, false, List, [], ◌∷◌, map, filter, slice_get, is_some, Bool, Option, None, Some}
use Rattle.std.specs.List.{AllByRecursion, IsDistinct}
use Rattle.z_types.specs.declared.address.Address.{Address}
use Rattle.z_types.specs.declared.key.SetKey.{SetKey}
use Rattle.z_types.specs.Logins.{inner, login_of, same_login}
use Rattle.z_types.specs.declared.world.World as world
use Rattle.route_config.specs.declared.route.Route.{Route}
use Rattle.route_config.specs.declared.route.Class.{Class}
use Rattle.pool_sets.specs.declared.pooled.Parts.{Parts}
use Rattle.pool_sets.specs.declared.sessions.Stand.{Stand}
use Rattle.pool_sets.specs.declared.sessions.Stand.TheVariants.{Idle, Out}
use Rattle.pool_sets.specs.Entries.{slots_of}
use Rattle.pool_sets.specs.Table.{Entry, Table, empty_table, set_of, same_key}
use Rattle.pool_sets.specs.Sessions.{Session, is_among}
use Rattle.pool_sets.specs.declared.doors.Seat.{Seat}
use Rattle.pool_sets.specs.declared.doors.Taken.{Taken}
use Rattle.pool_sets.specs.declared.doors.Taken.TheVariants.{Reuse, Fresh, Dial, Full, Memory}
use Rattle.pool_sets.specs.Plain.{Pool, fresh_sessions, is_seat}
use Rattle.sharing_rules.specs.Sharers.{Sharers, same_sharers}
use Rattle.sharing_rules.specs.Uses.{Use}
use Rattle.sharing_rules.specs.Needed.{is_by, is_set_by, last_at, is_late, is_refused, searches_for}
use Rattle.sharing_rules.specs.Orderly.{logins_used}

-- a set in a table of theirs was last used when the table says
abbrev pub IsUsedLast : Sharers → (before : List Use) → Entry → Type 0
IsUsedLast who before e = last_at (is_set_by who e.key) before ≡ Some e.used

-- a table of theirs holds no set twice and none that the target refuses, under slots of their own,
-- each as it was last used, and every other that was used less than its time to live ago
pub record HoldsUsed {W : Type 0} (w : world.Ghosts W) (route : Route) (who : Sharers)
    (now : ℕ) (before : List Use) (table : Table) : Type 0 where
  pub most : table.most ≡ route.pool.sets_max
  pub latest : table.latest ≤ now
  pub distinct : IsDistinct same_key (map (λ e. e.key) table.entries)
  pub slots : IsDistinct nat_eq (slots_of table.entries)
  pub good : AllByRecursion (λ e. is_refused w route who e.key ≡ false) table.entries
  pub used : AllByRecursion (IsUsedLast who before) table.entries
  pub held : (key : SetKey) → is_refused w route who key ≡ false
      → is_late route.pool.set_ttl now (last_at (is_set_by who key) before) ≡ false
      → is_some (set_of key table) ≡ true

module _ {W S : Type 0} (w : world.Ghosts W) (route : Route) (who : Sharers)
    (at : List Address) where
  -- an idle session of theirs was put back when the class was last used by them, and holds what was
  -- used
  pub record IsKept (now : ℕ) (before : List Use) (parts : Parts S) (since : ℕ) : Type 0 where
    pub since_last : last_at (is_by who) before ≡ Some since
    pub among : is_among at (inner parts.address) ≡ true
    pub inside_ : same_login who.login (login_of parts.address) ≡ true
    pub holds : HoldsUsed w route who now before parts.table

  -- a session of theirs is idle
  abbrev pub IsKeptIn : ℕ → List Use → Stand (Parts S) Address → Type 0
  IsKeptIn now before (Idle parts since) = IsKept now before parts since
  IsKeptIn now before (Out address) = ⊥

  -- they have one session, or none where they did not use the class for a session's time to live
  abbrev pub AreKept : ℕ → List Use → List (Session S) → Type 0
  AreKept now before [] = is_late route.pool.session_ttl now (last_at (is_by who) before) ≡ true
  AreKept now before (o ∷ []) = IsKeptIn now before o.stand
  AreKept now before (o ∷ (p ∷ os)) = ⊥

-- moments fall from use to use, the last of which comes first
abbrev pub AreInOrder : ℕ → List Use → Type 0
AreInOrder now [] = Unit {0}
AreInOrder now (one ∷ before) = (one.at ≤ now) × AreInOrder one.at before

-- for whom a session was dialled
abbrev pub sharers_of : {S : Type 0} → Session S → Sharers
sharers_of o = record { class = o.class; login = o.login }

-- a session is theirs
abbrev pub is_of : {S : Type 0} → Sharers → Session S → Bool
is_of who o = same_sharers (sharers_of o) who

-- their sessions
abbrev pub shared_by : {S : Type 0} → Sharers → List (Session S) → List (Session S)
shared_by who os = filter (is_of who) os

-- a class is kept so under each login
abbrev pub IsKeptClass : {W S : Type 0} → world.Ghosts W → Route → (class : ℕ)
    → (at : List Address) → (now : ℕ) → List Use → List (Session S) → Type 0
IsKeptClass w route class at now before os =
    (login : Option (List ℕ))
    → AreKept w route (record { class = class; login = login }) at now before
    (shared_by (record { class = class; login = login }) os)

-- a pool at a moment behind these uses: each class of the route is kept so
abbrev pub IsShared : {W S : Type 0} → world.Ghosts W → Route → ℕ → List Use → Pool S → Type 0
IsShared w route now before pool =
    (class : ℕ) (found : Class) → slice_get route.classes class ≡ Some found
    → IsKeptClass w route class found.addresses now before pool.sessions

-- their one session is out, for this seat: so it is while a leg of a request in work holds it
abbrev pub IsLent : {S : Type 0} → Sharers → Seat → List (Session S) → Type 0
IsLent {S} who seat os = (o : Session S) × (shared_by who os ≡ o ∷ []) × (is_seat seat o ≡ true)

-- the pool of a route's numbers with these sessions
abbrev pub pool_of : {S : Type 0} → Route → ℕ → List (Session S) → Pool S
pool_of route given os = record {
  sessions = os;
  given = given;
  max_sessions = route.pool.max_sessions;
  sets_max = route.pool.sets_max;
  session_ttl = route.pool.session_ttl;
  set_ttl = route.pool.set_ttl;
}

-- each number is of a session of some sharers, and none is above the last that was given
pub record AreNumbered {S : Type 0} (given : ℕ) (os : List (Session S)) : Type 0 where
  pub theirs : ℕ → Sharers
  pub each : AllByRecursion (λ o. (sharers_of o ≡ theirs o.number) × (o.number ≤ given)) os

-- what a take leaves of a pool of a route: the sessions of all others expired
pub record LeavesOthers {S : Type 0} (route : Route) (who : Sharers) (now : ℕ)
    (os : List (Session S)) (q : Pool S) : Type 0 where
  pub numbers : q ≡ pool_of route q.given q.sessions
  pub numbered : AreNumbered q.given q.sessions
  pub others : (other : Sharers) → same_sharers other who ≡ false
      → shared_by other q.sessions
      ≡ fresh_sessions now route.pool.session_ttl route.pool.set_ttl (shared_by other os)

-- ---- one use now, behind these uses

-- the use
abbrev pub use_now : Sharers → (now : ℕ) → (want : Option SetKey) → Use
use_now who now want = record { by = who; key = want; at = now }

-- whether it needs a search, and a dial
abbrev pub search_due : {W : Type 0} → world.Ghosts W → Route → Sharers → (now : ℕ)
    → (before : List Use) → (want : Option SetKey) → Bool
search_due w route who now before want = searches_for w route before (use_now who now want) want

abbrev pub dial_due : Route → Sharers → (now : ℕ) → (before : List Use) → Bool
dial_due route who now before = is_late route.pool.session_ttl now (last_at (is_by who) before)

-- with it, no more logins use the class than it may have sessions
abbrev pub FindsRoom : Route → Sharers → (now : ℕ) → (before : List Use) → Type 0
FindsRoom route who now before =
    logins_used who.class (use_now who now None ∷ before) ≤ route.pool.max_sessions

module _ {W S : Type 0} (w : world.Ghosts W) (route : Route) (who : Sharers) (at : List Address)
    (now : ℕ) where
  -- the session of a seat is out, and its table holds what these uses left
  pub record IsOutWith (uses : List Use) (seat : Seat) (parts : Parts S)
      (os : List (Session S)) : Type 0 where
    pub own : seat.class ≡ who.class
    pub out : IsLent who seat os
    pub among : is_among at (inner parts.address) ≡ true
    pub inside_ : same_login who.login (login_of parts.address) ≡ true
    pub holds : HoldsUsed w route who now uses parts.table

  -- what a take gives: a set that is wanted where no search is needed, a session without it, or a
  -- member to dial where a dial is needed; it is never full
  abbrev pub TakesSo : (before : List Use) → (want : Option SetKey) → Taken S
      → List (Session S) → Type 0
  TakesSo before want (Reuse seat parts slot hits) os =
      IsOutWith (use_now who now want ∷ before) seat parts os
      × (search_due w route who now before want ≡ false)
      × (dial_due route who now before ≡ false)
  TakesSo before want (Fresh seat parts) os =
      IsOutWith before seat parts os
      × (search_due w route who now before want ≡ is_some want)
      × (dial_due route who now before ≡ false)
  TakesSo before want (Dial seat member) os =
      (seat.class ≡ who.class) × IsLent who seat os
      × HoldsUsed w route who now before (empty_table route.pool.sets_max)
      × (search_due w route who now before want ≡ is_some want)
      × (dial_due route who now before ≡ true)
  TakesSo before want (Full open_) os = ⊥
  TakesSo before want Memory os = Unit {0}

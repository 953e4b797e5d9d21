-- For contracts alone: what a leg asks of a pool and its route, and what it leaves of the sessions
-- of others (this project's own)
use Rattle.std.specs.Prelude.{◌≡◌, ◌⊎◌, ℕ, ◌≤◌, false, List, ◌∷◌, Contains, Option, is_err}
use Rattle.z_types.specs.Logins.{inside}
use Rattle.z_types.specs.declared.address.Address.{Address}
use Rattle.z_types.specs.declared.key.SetKey.{SetKey}
use Rattle.z_types.specs.declared.world.World as world
use Rattle.route_config.specs.Sound.{IsSound}
use Rattle.route_config.specs.declared.route.Route.{Route}
use Rattle.pool_sets.specs.Plain.{Pool, fresh_sessions}
use Rattle.pool_sets.specs.Sessions.{Session}
use Rattle.leg.specs.Terms.{class_of, members_of}
use Rattle.sharing_rules.specs.Needed.{is_by, is_refused, is_set_by, last_at}
use Rattle.sharing_rules.specs.Orderly.{keys_used}
use Rattle.sharing_rules.specs.Sharers.{Sharers, same_sharers}
use Rattle.sharing_rules.specs.Uses.{Use}
use Rattle.sharing_rules.specs.steps.Shared.{AreInOrder, AreNumbered, FindsRoom, pool_of, shared_by, use_now}

-- who shares with a leg: those of its class and login
abbrev pub sharers_at : Route → (login : Option (List ℕ)) → (place : ℕ) → Sharers
sharers_at route login place = record { class = class_of route place; login = login }

-- ---- what is asked

-- a pool has the numbers of its route, and each number is of a session of some sharers
pub record IsPoolOf {S : Type 0} (route : Route) (pool : Pool S) : Type 0 where
  pub numbers : pool ≡ pool_of route pool.given pool.sessions
  pub numbered : AreNumbered pool.given pool.sessions

-- the members of a class are told inside the login, and refuse the searches that the class refuses
-- there
pub record IsOneTarget {W : Type 0} (w : world.Ghosts W) (route : Route)
    (who : Sharers) : Type 0 where
  pub told : (address : Address) → Contains (members_of route who.class) address
      → w.told (inside who.login address)
  pub refuse : (address : Address) (key : SetKey) → Contains (members_of route who.class) address
      → is_err (w.search (inside who.login address) key) ≡ is_refused w route who key

-- a class may be used under a login: its members are one target, the uses before stand in order,
-- all keys that are used with this one under that login find room in one session, and all logins
-- that use the class in one each
pub record MayUse {W : Type 0} (w : world.Ghosts W) (route : Route) (who : Sharers) (now : ℕ)
    (before : List Use) (want : Option SetKey) : Type 0 where
  pub one : IsOneTarget w route who
  pub sound : IsSound route
  pub falls : AreInOrder now before
  pub few : keys_used who (use_now who now want ∷ before) ≤ route.pool.sets_max
  pub own : FindsRoom route who now before

-- ---- what is left

-- sessions stay, or have expired
abbrev pub StayOrExpire : {S : Type 0} → Route → ℕ → (os ps : List (Session S)) → Type 0
StayOrExpire route now os ps =
    (ps ≡ os) ⊎ (ps ≡ fresh_sessions now route.pool.session_ttl route.pool.set_ttl os)

-- so do those of a class, login by login
abbrev pub StaysInClass : {S : Type 0} → Route → (class now : ℕ) → (old new : Pool S) → Type 0
StaysInClass route class now old new =
    (login : Option (List ℕ))
    → StayOrExpire route now
    (shared_by (record { class = class; login = login }) old.sessions)
    (shared_by (record { class = class; login = login }) new.sessions)

-- and those of all others
abbrev pub LeavesRest : {S : Type 0} → Route → Sharers → (now : ℕ) → (old new : Pool S) → Type 0
LeavesRest route who now old new =
    (other : Sharers) → same_sharers other who ≡ false
    → StayOrExpire route now (shared_by other old.sessions) (shared_by other new.sessions)

-- ---- uses

-- some sharers, and each of their keys, were last there when they were by other uses
pub record HaveSameLast (who : Sharers) (uses others : List Use) : Type 0 where
  pub of_theirs : last_at (is_by who) others ≡ last_at (is_by who) uses
  pub of_key : (key : SetKey)
      → last_at (is_set_by who key) others ≡ last_at (is_set_by who key) uses

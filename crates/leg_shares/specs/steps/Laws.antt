-- For contracts alone: a leg shares the session of its class (this project's own)
use Rattle.std.specs.Prelude.{◌≡◌, ℕ, Bool, false, List, Option, Some}
use Rattle.z_types.specs.Chains.{GoesThrough, last_of}
use Rattle.z_types.specs.declared.address.Address.{Address}
use Rattle.z_types.specs.declared.key.SetKey.{SetKey}
use Rattle.z_types.specs.declared.sitting.Sitting as sitting
use Rattle.z_types.specs.declared.world.World as world
use Rattle.gateway_rules.specs.Fair.{IsFair}
use Rattle.route_config.specs.Sound.{ArePoolNumbers}
use Rattle.route_config.specs.declared.route.Route.{Route}
use Rattle.pool_sets.specs.Plain.{Pool}
use Rattle.pool_sets.specs.Sessions.{Session}
use Rattle.leg.specs.Deeds.{BackendView}
use Rattle.leg.specs.Kept.{one_if}
use Rattle.leg.specs.Phases.{IsDone}
use Rattle.leg.specs.Tasks.{want_of}
use Rattle.leg.specs.Terms.{terms_of}
use Rattle.leg.specs.Turns.{DoorView, IsTurn}
use Rattle.leg.specs.declared.accounts.Account.{Account}
use Rattle.leg.specs.declared.answers.Turned.{Turned}
use Rattle.leg.specs.declared.phases.Phase.{Phase}
use Rattle.leg.specs.declared.tasks.Task.{Task}
use Rattle.sharing_rules.specs.Needed.{is_by, is_refused, is_set_by, last_at}
use Rattle.sharing_rules.specs.Sharers.{Sharers}
use Rattle.sharing_rules.specs.Uses.{Use}
use Rattle.sharing_rules.specs.steps.Shared.{AreKept, dial_due, search_due, shared_by}
use Rattle.leg_shares.specs.steps.Pools.{HaveSameLast, IsOneTarget, IsPoolOf, MayUse, StayOrExpire, sharers_at}
use Rattle.leg_shares.specs.steps.Sharing.{AreOthersKept, IsKeptBehind, Shares, SharesThen, WentOn, with_use}
use Rattle.leg_shares.specs.steps.Through.{GoesOn, Point, at_first}

-- on a fair route the members of each class are one target
abbrev pub FairClassIsOne : {W : Type 0} → world.Ghosts W → Type 0
FairClassIsOne w = (route : Route) (who : Sharers) → IsFair w route → IsOneTarget w route who

-- sessions that stay or expire twice at one moment do so once
abbrev pub StaysOnce : Type 0 → Type 0
StaysOnce S =
    (route : Route) (now : ℕ) (os ps qs : List (Session S))
    → StayOrExpire route now os ps → StayOrExpire route now ps qs → StayOrExpire route now os qs

-- what is kept of a class is decided by the last uses of it and of its keys
abbrev pub LastUsesDecide : {W : Type 0} → world.Ghosts W → Type 0 → Type 0
LastUsesDecide w S =
    (route : Route) (who : Sharers) (now : ℕ) (at : List Address) (uses others : List Use)
    (os : List (Session S))
    → HaveSameLast who uses others → AreKept w route who at now uses os
    → AreKept w route who at now others os

-- a class that was used now, with that key, needs no dial, and no search but where the target
-- refuses it
abbrev pub AgainNeedsNone : {W : Type 0} → world.Ghosts W → Type 0
AgainNeedsNone w =
    (route : Route) (who : Sharers) (now : ℕ) (before : List Use) (key : SetKey)
    → ArePoolNumbers route.pool → last_at (is_by who) before ≡ Some now
    → last_at (is_set_by who key) before ≡ Some now
    → (dial_due route who now before ≡ false)
    × (search_due w route who now before (Some key) ≡ is_refused w route who key)

module _ {W S : Type 0} (w : world.Ghosts W) (t : sitting.Ghosts S W) where
  -- a turn goes on as the leg's use of its class needs, and leaves the sessions of others
  abbrev pub TurnsShare : Type 0
  TurnsShare =
      (exact : Bool) (route : Route) (login : Option (List ℕ)) (place now : ℕ)
      (before : List Use) (task : Task) (old new : Phase S) (a b : Account) (answer : Turned)
      (door after : DoorView S) (backend moved : BackendView) (pool : Pool S)
      → MayUse w route (sharers_at route login place) now before (want_of task)
      → AreOthersKept w route (sharers_at route login place) now before pool
      → door.pool ≡ Some pool → IsPoolOf route pool
      → IsTurn w t exact (terms_of route login place) task now old new a b answer door after
      backend moved → WentOn answer b
      → Shares w t route (sharers_at route login place) now before task old a pool
      → SharesThen w t route (sharers_at route login place) now before task new b pool after.pool

  -- what others do with sessions that are not its own leaves the leg where it stands
  abbrev pub OthersShare : Type 0
  OthersShare =
      (route : Route) (who : Sharers) (now : ℕ) (before : List Use) (task : Task) (phase : Phase S)
      (account : Account) (old new : Pool S)
      → StayOrExpire route now (shared_by who old.sessions) (shared_by who new.sessions)
      → Shares w t route who now before task phase account old
      → Shares w t route who now before task phase account new

  -- a leg over a class that is kept, once it is done: it dialled exactly where a dial was needed,
  -- it searched exactly where a search was, and the class is kept with its use
  pub record IsShared (route : Route) (who : Sharers) (now : ℕ) (before : List Use) (task : Task)
      (point : Point S) : Type 0 where
    pub dials : point.account.dials ≡ one_if (dial_due route who now before)
    pub searches : point.account.searches
        ≡ one_if (search_due w route who now before (want_of task))
    pub of : IsPoolOf route point.pool
    pub kept : IsKeptBehind w route who now (with_use who now before task) point.pool

  abbrev pub LegsShare : Type 0
  LegsShare =
      (exact : Bool) (route : Route) (login : Option (List ℕ)) (place now : ℕ)
      (before : List Use) (task : Task) (pool : Pool S) (points : List (Point S))
      → MayUse w route (sharers_at route login place) now before (want_of task)
      → IsPoolOf route pool
      → IsKeptBehind w route (sharers_at route login place) now before pool
      → AreOthersKept w route (sharers_at route login place) now before pool
      → GoesThrough (GoesOn w t exact route login place task now) (at_first pool) points
      → IsDone (last_of (at_first pool) points).phase
      → IsShared route (sharers_at route login place) now before task
      (last_of (at_first pool) points)

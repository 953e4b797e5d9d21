-- For contracts alone: laws of a pool that is shared (this project's own)
use Rattle.std.specs.Prelude.{◌≡◌, ℕ, ◌≤◌, false, List, [], ◌∷◌, Option}
use Rattle.z_types.specs.declared.address.Address.{Address}
use Rattle.z_types.specs.declared.key.SetKey.{SetKey}
use Rattle.z_types.specs.declared.world.World as world
use Rattle.route_config.specs.declared.route.Route.{Route}
use Rattle.route_config.specs.Sound.{ArePoolNumbers}
use Rattle.pool_sets.specs.Plain.{Pool, take_of}
use Rattle.pool_sets.specs.Sessions.{Session}
use Rattle.sharing_rules.specs.Sharers.{Sharers, same_sharers}
use Rattle.sharing_rules.specs.Uses.{Use}
use Rattle.sharing_rules.specs.steps.Shared.{AreInOrder, AreKept, AreNumbered, FindsRoom, IsKeptClass, IsShared, LeavesOthers, TakesSo, pool_of, use_now}

module _ {W : Type 0} (w : world.Ghosts W) (S : Type 0) where
  -- a pool without sessions is kept behind no use
  abbrev pub StartsKept : Type 0
  StartsKept = (route : Route) (now : ℕ) (p : Pool S) → p.sessions ≡ [] → IsShared w route now [] p

  -- a take of a class that is kept gives a set where no search is needed and dials where a dial is,
  -- and leaves the sessions of all others: of other logins too, as there is room for each
  abbrev pub TakesAsNeeded : Type 0
  TakesAsNeeded =
      (route : Route) (who : Sharers) (at : List Address) (now moment : ℕ) (before : List Use)
      (want : Option SetKey) (given : ℕ) (os : List (Session S))
      → AreInOrder moment before → ArePoolNumbers route.pool → AreNumbered given os
      → FindsRoom route who now before → IsKeptClass w route who.class at now before os
      → TakesSo w route who at now before want
      (take_of who.class at who.login want now (pool_of route given os)).0
      (take_of who.class at who.login want now (pool_of route given os)).1.sessions
      × LeavesOthers route who now os
      (take_of who.class at who.login want now (pool_of route given os)).1

  -- what is kept is kept later
  abbrev pub TimeKeeps : Type 0
  TimeKeeps =
      (route : Route) (who : Sharers) (at : List Address) (earlier now : ℕ) (before : List Use)
      (os : List (Session S))
      → earlier ≤ now → AreKept w route who at earlier before os
      → AreKept w route who at now before os

  -- and behind a use by others
  abbrev pub OthersKeep : Type 0
  OthersKeep =
      (route : Route) (who own : Sharers) (at : List Address) (now : ℕ) (before : List Use)
      (key : Option SetKey) (os : List (Session S))
      → same_sharers own who ≡ false → AreKept w route who at now before os
      → AreKept w route who at now (use_now own now key ∷ before) os

  -- a use that comes twice at one moment counts once
  abbrev pub TwiceIsOnce : Type 0
  TwiceIsOnce =
      (route : Route) (who : Sharers) (now : ℕ) (at : List Address) (one : Use)
      (before : List Use) (os : List (Session S))
      → AreKept w route who at now (one ∷ one ∷ before) os
      → AreKept w route who at now (one ∷ before) os

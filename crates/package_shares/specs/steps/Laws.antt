-- For contracts alone: the legs of a request share their classes (this project's own)
use Rattle.std.specs.Prelude.{◌≡◌, ◌≢◌, ℕ, Bool, true, List, ◌++◌, Some}
use Rattle.std.specs.List.{AllByRecursion}
use Rattle.z_types.specs.declared.sitting.Sitting as sitting
use Rattle.z_types.specs.declared.work.Work.{Work}
use Rattle.z_types.specs.declared.world.World as world
use Rattle.route_config.specs.declared.route.Route.{Route}
use Rattle.pool_sets.specs.Plain.{Pool}
use Rattle.package_quiet.specs.leg.Deeds.{BackendView}
use Rattle.package_quiet.specs.leg.LegView.{LegView}
use Rattle.package_quiet.specs.leg.Turns.{DoorView}
use Rattle.package_quiet.specs.leg.declared.answers.Turned.{Turned}
use Rattle.package_quiet.specs.leg.declared.answers.Turned.TheVariants as turned
use Rattle.package_quiet.specs.package.declared.turning.Round.{Round}
use Rattle.package_quiet.specs.package.steps.Packages.{PackageView, new_package}
use Rattle.package_quiet.specs.package.steps.Turns.{HaveTurned, IsPackageTurn, all_done}
use Rattle.sharing_rules.specs.Uses.{Use}
use Rattle.package_quiet.specs.steps.Quiet.{AreWell, IsCalm, IsToldRoute}
use Rattle.package_shares.specs.steps.Packages.{HadMemory, MayPackageShare, PackageShares, PackageSharesOver}
use Rattle.package_shares.specs.steps.Together.{AreAllKept, AreApart, AreSharing, AreSharingOver, AreUndisturbed, HadItsCost, MayShare, uses_behind}

module _ {W S : Type 0} (w : world.Ghosts W) (t : sitting.Ghosts S W) where
  -- a package that is begun over a pool that is kept shares
  abbrev pub BegunShares : Type 0
  BegunShares =
      (route : Route) (now : ℕ) (before : List Use) (work : Work) (pool : Pool S)
      → AreAllKept w route now before pool
      → PackageShares w t route now before (new_package {S = S} route work).planned
      (new_package route work) pool

  -- legs of which all are done had what their uses need, and leave each class kept with them
  abbrev pub DoneLegsLeaveUses : Type 0
  DoneLegsLeaveUses =
      (route : Route) (now : ℕ) (before : List Use) (legs : List (LegView S)) (pool : Pool S)
      → AreApart route legs → AreSharing w t route now before legs pool → all_done legs ≡ true
      → AllByRecursion (HadItsCost w route now before) legs
      × AreAllKept w route now (uses_behind route now before legs) pool

  -- legs that had their turns one after another, had memory and met nothing that goes wrong, share
  -- behind them
  abbrev pub RoundsShare : Type 0
  RoundsShare =
      (exact : Bool) (route : Route) (now : ℕ) (before : List Use) (olds news : List (LegView S))
      (round last : Round) (door after : DoorView S) (backend moved : BackendView) (pool : Pool S)
      → MayShare w route now before olds
      → HaveTurned w t exact route now olds news round last door after backend moved
      → HadMemory last news → AreUndisturbed news → door.pool ≡ Some pool
      → AreSharing w t route now before olds pool
      → AreSharingOver w t route now before news after.pool

  -- so does a package behind its turn
  abbrev pub PackagesShare : Type 0
  PackagesShare =
      (exact : Bool) (route : Route) (now : ℕ) (before : List Use) (old new : PackageView S)
      (answer : Turned) (door after : DoorView S) (backend moved : BackendView) (pool : Pool S)
      → MayPackageShare w route now before old
      → IsPackageTurn w t exact route now old new answer door after backend moved
      → answer ≢ turned.Memory → AreUndisturbed (new.first ++ new.later) → door.pool ≡ Some pool
      → PackageShares w t route now before old.planned old pool
      → PackageSharesOver w t route now before new after.pool

  -- over a backend that is quiet and counts exactly, at told addresses, nothing goes wrong with
  -- them
  abbrev pub QuietPackagesShare : Type 0
  QuietPackagesShare =
      (exact : Bool) (route : Route) (now : ℕ) (before : List Use) (old new : PackageView S)
      (answer : Turned) (door after : DoorView S) (backend moved : BackendView) (pool : Pool S)
      → MayPackageShare w route now before old
      → IsPackageTurn w t exact route now old new answer door after backend moved
      → answer ≢ turned.Memory → exact ≡ true → IsToldRoute w route → IsCalm w t door.pool backend
      → AreWell w t route (old.first ++ old.later) → door.pool ≡ Some pool
      → PackageShares w t route now before old.planned old pool
      → PackageSharesOver w t route now before new after.pool

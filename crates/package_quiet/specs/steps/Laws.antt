-- For contracts alone: nothing goes wrong over a quiet backend that counts exactly, at addresses
-- that are told; and no leg is marked where no more befalls links than it bears, but for a full
-- door (this project's own)
use Rattle.std.specs.Prelude.{◌≡◌, ◌≢◌, ℕ, ◌≤◌, Bool, true, List, ◌++◌}
use Rattle.z_types.specs.declared.sitting.Sitting as sitting
use Rattle.z_types.specs.declared.work.Work.{Work}
use Rattle.z_types.specs.declared.world.World as world
use Rattle.route_config.specs.declared.route.Route.{Route}
use Rattle.gw_outside.specs.Happened.{Happened}
use Rattle.package.specs.leg.Deeds.{BackendView}
use Rattle.package.specs.leg.LegView.{LegView}
use Rattle.package.specs.leg.Terms.{Terms, sites}
use Rattle.package.specs.leg.Turns.{DoorView, IsTurn}
use Rattle.package.specs.leg.declared.accounts.Account.{Account}
use Rattle.package.specs.leg.declared.answers.Turned.{Turned}
use Rattle.package.specs.leg.declared.answers.Turned.TheVariants as turned
use Rattle.package.specs.leg.declared.phases.Phase.{Phase}
use Rattle.package.specs.leg.declared.tasks.Task.{Task}
use Rattle.package.specs.steps.Packages.{PackageView, new_package}
use Rattle.package.specs.steps.Turns.{IsPackageTurn}
use Rattle.package_quiet.specs.steps.Bearing.{AllBear, AreBearable, AreNoWorse, BearsAt, BearsOn, DialsGoOn, IsBorneBy}
use Rattle.package_quiet.specs.steps.Quiet.{AreTold, AreWell, IsCalm, IsToldRoute, IsWellAt, WentWell}

module _ {W S : Type 0} (w : world.Ghosts W) (t : sitting.Ghosts S W) where
  -- a turn of a leg fails at nothing, and meets no look in vain and no set that is gone; the
  -- sessions of the leg and of the pool are whole behind it
  abbrev pub TurnsGoWell : Type 0
  TurnsGoWell =
      (exact : Bool) (terms : Terms) (task : Task) (now : ℕ) (old new : Phase S) (a b : Account)
      (answer : Turned) (door after : DoorView S) (backend moved : BackendView)
      → exact ≡ true → AreTold w (sites terms)
      → IsTurn w t exact terms task now old new a b answer door after backend moved
      → IsCalm w t door.pool backend → IsWellAt w t terms old a
      → IsWellAt w t terms new b × WentWell w t (answer ≢ turned.Memory) after.pool backend moved

  -- a package that is begun is well
  abbrev pub BegunIsWell : Type 0
  BegunIsWell =
      (route : Route) (work : Work)
      → AreWell w t route
      ((new_package {S = S} route work).first ++ (new_package {S = S} route work).later)

  -- so are all turns of a package
  abbrev pub PackagesGoWell : Type 0
  PackagesGoWell =
      (exact : Bool) (route : Route) (now : ℕ) (old new : PackageView S) (answer : Turned)
      (door after : DoorView S) (backend moved : BackendView)
      → exact ≡ true → IsToldRoute w route
      → IsPackageTurn w t exact route now old new answer door after backend moved
      → IsCalm w t door.pool backend → AreWell w t route (old.first ++ old.later)
      → AreWell w t route (new.first ++ new.later)
      × WentWell w t (answer ≢ turned.Memory) after.pool backend moved

  -- a leg that bears what was made to happen to links bears it behind a turn, where the links that
  -- are made go on to be counted: the one that it makes is not cut, and where the link of a session
  -- that the pool gave is, it dials again
  abbrev pub TurnsBear : Type 0
  TurnsBear =
      (exact : Bool) (terms : Terms) (task : Task) (now : ℕ) (old new : Phase S) (a b : Account)
      (answer : Turned) (door after : DoorView S) (backend moved : BackendView)
      → exact ≡ true → AreTold w (sites terms)
      → IsTurn w t exact terms task now old new a b answer door after backend moved
      → DialsGoOn moved.counts → IsBorneBy w t terms.pool door.pool backend
      → BearsAt w t terms backend.happened old a
      → BearsAt w t terms moved.happened new b × BearsOn w t terms.pool after.pool backend moved

  -- the legs of a package that is begun do
  abbrev pub BegunBears : Type 0
  BegunBears =
      (route : Route) (work : Work) (h : Happened) → AreBearable route.pool h
      → AllBear w t route h
      ((new_package {S = S} route work).first ++ (new_package {S = S} route work).later)

  -- so do those of a package behind each turn
  abbrev pub PackagesBear : Type 0
  PackagesBear =
      (exact : Bool) (route : Route) (now : ℕ) (old new : PackageView S) (answer : Turned)
      (door after : DoorView S) (backend moved : BackendView)
      → exact ≡ true → IsToldRoute w route
      → IsPackageTurn w t exact route now old new answer door after backend moved
      → DialsGoOn moved.counts → IsBorneBy w t route.pool door.pool backend
      → AllBear w t route backend.happened (old.first ++ old.later)
      → AllBear w t route moved.happened (new.first ++ new.later)
      × BearsOn w t route.pool after.pool backend moved

  -- which lowers no count of the links that were made
  abbrev pub PackagesDialOn : Type 0
  PackagesDialOn =
      (exact : Bool) (route : Route) (now : ℕ) (old new : PackageView S) (answer : Turned)
      (door after : DoorView S) (backend moved : BackendView)
      → IsPackageTurn w t exact route now old new answer door after backend moved
      → DialsGoOn moved.counts → backend.counts.dials ≤ moved.counts.dials

  -- and those of any other, as no worse becomes of links
  abbrev pub BearingStays : Type 0
  BearingStays =
      (route : Route) (old new : Happened) (legs : List (LegView S)) → AreNoWorse old new
      → AllBear w t route old legs → AllBear w t route new legs

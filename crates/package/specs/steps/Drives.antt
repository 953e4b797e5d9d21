-- For contracts alone: turns of a package, one behind another, until none of its legs is left to
-- turn (this project's own)
use Rattle.std.specs.Prelude.{◌≡◌, ◌⊎◌, ℕ, Bool, Result, Ok, Err}
use Rattle.z_types.specs.Chains.{StepsFrom}
use Rattle.z_types.specs.declared.memory.Memory.{Memory}
use Rattle.z_types.specs.declared.sitting.Sitting as sitting
use Rattle.z_types.specs.declared.world.World as world
use Rattle.gw_outside.specs.declared.watched.Watched as watched
use Rattle.pool_sets.specs.declared.doors.Door as door
use Rattle.route_config.specs.declared.route.Route.{Route}
use Rattle.leg.specs.Deeds.{BackendView}
use Rattle.leg.specs.Turns.{DoorView}
use Rattle.leg.specs.declared.answers.Turned.{Turned}
use Rattle.leg.specs.declared.answers.Turned.TheVariants as turned
use Rattle.package.specs.steps.Packages.{IsPackageOf, PackageView}
use Rattle.package.specs.steps.Turns.{IsPackageTurn}

-- a package, and what is outside of it
pub record PackageAt (S : Type 0) : Type 0 where
  pub view : PackageView S
  pub door : DoorView S
  pub backend : BackendView

-- as its door and its backend tell
abbrev pub package_at : {W S D B : Type 0} → door.Ghosts D W S → watched.Ghosts B → PackageView S
    → D → B → PackageAt S
package_at d b view pool sessions = record {
  view = view;
  door = record { pool = d.pool pool; counts = d.counts pool };
  backend = record { counts = b.counts sessions; happened = b.happened sessions };
}

-- what the last turn answers: that all legs are done, or want of memory
abbrev pub last_answer : {A : Type 0} → Result A Memory → Turned
last_answer (Ok done) = turned.Done
last_answer (Err memory) = turned.Memory

-- what any other does
abbrev pub IsAwaited : Turned → Type 0
IsAwaited answer = (answer ≡ turned.Went) ⊎ (answer ≡ turned.NotYet)

module _ {W S : Type 0} (w : world.Ghosts W) (t : sitting.Ghosts S W) (exact : Bool)
    (route : Route) where
  -- a turn, at some moment, behind which it is a package of the route
  pub record TurnsTo (here next : PackageAt S) (answer : Turned) : Type 0 where
    pub now : ℕ
    pub law : IsPackageTurn w t exact route now here.view next.view answer here.door next.door
        here.backend next.backend
    pub of : IsPackageOf w t route next.door.counts.most next.view

  -- a turn behind which another one is due
  pub record GoesOnTo (here next : PackageAt S) : Type 0 where
    pub answer : Turned
    pub awaited : IsAwaited answer
    pub turn : TurnsTo here next answer

  -- all turns of a package that is driven: behind the last one all legs are done, or it lacked
  -- memory
  pub record IsDriven {A : Type 0} (first last : PackageAt S) (out : Result A Memory) : Type 0 where
    pub amid : PackageAt S
    pub goes : StepsFrom GoesOnTo first amid
    pub ends : TurnsTo amid last (last_answer out)

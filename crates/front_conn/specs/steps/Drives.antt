-- For contracts alone: steps of a connection, one behind another, until its request in work is
-- answered (this project's own)
use Rattle.std.specs.Prelude.{◌≡◌, ◌⊎◌, ℕ, Bool, Option, None, Some, Result, Ok, Err, IsSome, option_map}
use Rattle.z_types.specs.Chains.{StepsFrom}
use Rattle.z_types.specs.declared.marks.End.{End}
use Rattle.z_types.specs.declared.memory.Memory.{Memory as NoMemory}
use Rattle.z_types.specs.declared.sitting.Sitting as sitting
use Rattle.z_types.specs.declared.world.World as world
use Rattle.gw_outside.specs.declared.watched.Watched as watched
use Rattle.pool_sets.specs.declared.doors.Door as door
use Rattle.route_config.specs.declared.route.Route.{Route}
use Rattle.package.specs.steps.Drives as package_drives
use Rattle.package.specs.steps.Drives.{PackageAt}
use Rattle.package.specs.steps.Ends.{lost_seats}
use Rattle.package.specs.steps.Packages.{PackageView}
use Rattle.front_conn.specs.declared.stepped.Stepped.{Stepped}
use Rattle.front_conn.specs.declared.stepped.Stepped.TheVariants.{Memory, NotYet, Went}
use Rattle.front_conn.specs.steps.Answering.{AnsweringState, Outside, TurnsWork, legs_in}
use Rattle.front_conn.specs.steps.Feeding.{without_work}
use Rattle.front_conn.specs.steps.States.{ConnectionState, IsConnOf}
use Rattle.front_conn.specs.steps.Steps.{IsStepped}

-- a connection, and what is outside of it
pub record ConnAt (S : Type 0) : Type 0 where
  pub conn : ConnectionState S
  pub outside : Outside S

-- what is outside, as its door and its backend tell
abbrev pub outside_of : {W S D B : Type 0} → door.Ghosts D W S → watched.Ghosts B → D
    → B → Outside S
outside_of d b pool sessions = record {
  door = record { pool = d.pool pool; counts = d.counts pool };
  backend = record { counts = b.counts sessions; happened = b.happened sessions };
}

-- and a connection there
abbrev pub conn_at : {W S D B : Type 0} → door.Ghosts D W S → watched.Ghosts B → ConnectionState S
    → D → B → ConnAt S
conn_at d b state pool sessions = record { conn = state; outside = outside_of d b pool sessions }

-- what the last step answers: that the request was answered, or want of memory
abbrev pub last_step : {A : Type 0} → Result A NoMemory → Stepped
last_step (Ok done) = Went
last_step (Err memory) = Memory

-- what any other does
abbrev pub IsAwaited : Stepped → Type 0
IsAwaited answer = (answer ≡ Went) ⊎ (answer ≡ NotYet)

module _ {S : Type 0} where
  -- a request is in work
  pub record IsInWork (state : ConnectionState S) : Type 0 where
    pub goes_on : state.end ≡ None
    pub works : IsSome state.in_work

  -- the package in work, with what is outside of its connection
  abbrev pub package_in : PackageView S → Outside S → PackageAt S
  package_in view outside = record { view = view; door = outside.door; backend = outside.backend }

  -- what is outside of a package
  abbrev pub around : PackageAt S → Outside S
  around here = record { door = here.door; backend = here.backend }

  -- where a connection was given up: so are the sessions that were out for it
  abbrev pub given_up_at : ConnAt S → ConnAt S
  given_up_at here = record {
    conn = without_work here.conn;
    outside = record {
      door = record {
        pool = option_map (lost_seats (legs_in here.conn.in_work)) here.outside.door.pool;
        counts = here.outside.door.counts;
      };
      backend = here.outside.backend;
    };
  }

module _ {W S : Type 0} (w : world.Ghosts W) (t : sitting.Ghosts S W) (exact : Bool)
    (route : Route) where
  -- a connection of the route took a step, at some moment
  pub record StepsTo (here next : ConnAt S) (answer : Stepped) : Type 0 where
    pub now : ℕ
    pub of : IsConnOf w t route here.outside.door.counts.most here.conn
    pub stepped : IsStepped w t exact route now here.conn next.conn answer here.outside next.outside

  -- a step behind which the request is still in work, or the fetch of its GET is
  pub record GoesOnTo (here next : ConnAt S) : Type 0 where
    pub answer : Stepped
    pub awaited : IsAwaited answer
    pub step : StepsTo here next answer
    pub in_work : IsInWork next.conn

  -- such steps, and the one that answers so behind them
  pub record HasDriven (first last : ConnAt S) (answer : Stepped) : Type 0 where
    pub amid : ConnAt S
    pub goes : StepsFrom GoesOnTo first amid
    pub ends : StepsTo amid last answer

  -- all steps of a connection that is driven: behind the last one its request is answered; or it
  -- lacked memory, and was given up then
  abbrev pub IsDriven : {A : Type 0} → (first last : ConnAt S) → Result A NoMemory → Type 0
  IsDriven first last (Ok done) = HasDriven first last Went × (last.conn.in_work ≡ None)
  IsDriven first last (Err memory) =
      (lacking : ConnAt S) × HasDriven first lacking Memory × (last ≡ given_up_at lacking)

  -- the package in work had turns, one behind another, that went on; and with the last one it did
  -- what a turn does
  pub record DrivesWork (view : PackageView S) (old new : AnsweringState S) (answer : Stepped)
      (end : Option End) (before behind : Outside S) : Type 0 where
    pub amid : PackageAt S
    pub goes : StepsFrom (package_drives.GoesOnTo w t exact route) (package_in view before) amid
    pub now : ℕ
    pub turns : TurnsWork w t exact route now amid.view
        (record old { in_work = Some amid.view }) new answer end (around amid) behind

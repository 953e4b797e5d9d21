-- For contracts alone: which seats are out of a pool, and who holds them (this project's own). Of a
-- pool that is not told nothing is known, and nothing is said here
use Rattle.std.specs.Prelude.{◌≡◌, ℕ, ◌+◌, ◌==◌, ◌&&◌, Bool, if◌then◌else◌, List, Option, None, Some}
use Rattle.std.specs.List.{AllByRecursion, sum_by}
use Rattle.pool_sets.specs.Plain.{Ascends, Pool, out_of}
use Rattle.pool_sets.specs.declared.doors.Seat.{Seat}
use Rattle.front_conn.specs.leg.LegView.{LegView}
use Rattle.front_conn.specs.leg.Phases.{seat_of}
use Rattle.front_conn.specs.leg.declared.phases.Phase.{Phase}
use Rattle.front_conn.specs.leg.declared.phases.Phase.TheVariants.{Searching, Fetching}
use Rattle.front_conn.specs.leg.declared.tasks.Task.{Task}
use Rattle.front_conn.specs.leg.declared.tasks.Task.TheVariants.{Records, Scan}
use Rattle.front_conn.specs.steps.Answering.{legs_in}
use Rattle.front_conn.specs.steps.States.{ConnectionState}

-- ---- how often

-- two seats are of one session
abbrev pub is_same : Seat → Seat → Bool
is_same seat other = (seat.number == other.number) && (seat.class == other.class)

-- how often a seat is held where one is held, or none
abbrev pub held_at : Option Seat → Seat → ℕ
held_at None seat = 0
held_at (Some own) seat = if is_same own seat then 1 else 0

-- where none is
abbrev pub no_seat : Seat → ℕ
no_seat seat = 0

module _ {S : Type 0} where
  -- how often legs hold it
  abbrev pub held_in : List (LegView S) → Seat → ℕ
  held_in legs seat = sum_by (λ leg. held_at (seat_of leg.phase) seat) legs

-- ---- who holds what is out

-- the numbers of a pool ascend, and each seat that is out of it is held, or is out for others
pub record AreOut {S : Type 0} (held others : Seat → ℕ) (pool : Pool S) : Type 0 where
  pub ascend : Ascends 0 pool.given pool.sessions
  pub each : (seat : Seat) → out_of pool seat ≡ held seat + others seat

module _ {S : Type 0} where
  -- of a pool that is told
  abbrev pub AreOutOf : (held others : Seat → ℕ) → Option (Pool S) → Type 0
  AreOutOf held others None = ⊥
  AreOutOf held others (Some pool) = AreOut held others pool

  -- a leg that scans searches for no set, and only one that wants records fetches any
  abbrev pub DoesItsTask : Phase S → Task → Type 0
  DoesItsTask (Searching held items slot looks) (Scan scan) = ⊥
  DoesItsTask (Fetching held items slot hits looks) (Records key first count syntax element) =
      Unit {0}
  DoesItsTask (Fetching held items slot hits looks) task = ⊥
  DoesItsTask phase task = Unit {0}

  -- a leg does its task, and each seat that is out is its own, or is out for others
  pub record IsHeld (phase : Phase S) (task : Task) (others : Seat → ℕ)
      (pool : Option (Pool S)) : Type 0 where
    pub tasks : DoesItsTask phase task
    pub out : AreOutOf (held_at (seat_of phase)) others pool

  -- legs do their tasks, and each seat that is out is held by one of them, or is out for others
  pub record AreHeld (legs : List (LegView S)) (others : Seat → ℕ)
      (pool : Option (Pool S)) : Type 0 where
    pub tasks : AllByRecursion (λ leg. DoesItsTask leg.phase leg.task) legs
    pub out : AreOutOf (held_in legs) others pool

  -- and so on a connection, by the legs of its request in work
  abbrev pub AreHeldOn : ConnectionState S → (others : Seat → ℕ) → Option (Pool S) → Type 0
  AreHeldOn state others pool = AreHeld (legs_in state.in_work) others pool

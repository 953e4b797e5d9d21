-- For contracts alone: all that a connection over a told pool goes through, at want of memory too
-- (this project's own)
use Rattle.std.specs.Prelude.{◌≡◌, ◌⊎◌, ℕ, Bool, List, Some}
use Rattle.z_types.specs.declared.sitting.Sitting as sitting
use Rattle.z_types.specs.declared.world.World as world
use Rattle.route_config.specs.declared.route.Route.{Route}
use Rattle.pool_sets.specs.Plain.{Pool, out_of}
use Rattle.pool_sets.specs.declared.doors.Seat.{Seat}
use Rattle.front_conn.specs.front_session.Sessions.{new_session}
use Rattle.front_conn.specs.declared.stepped.Stepped.{Stepped}
use Rattle.front_conn.specs.steps.Answering.{Outside}
use Rattle.front_conn.specs.steps.Feeding.{with_end, with_piece, without_out}
use Rattle.front_conn.specs.steps.States.{ConnectionState, IsConnOf, nothing_yet}
use Rattle.front_conn.specs.steps.Steps.{IsStepped}
use Rattle.front_conn_seats.specs.steps.Seats.{AreHeldOn}

-- a connection, the pool, and how often each seat is out for others
pub record Point (S : Type 0) : Type 0 where
  pub state : ConnectionState S
  pub pool : Pool S
  pub others : Seat → ℕ

module _ {S : Type 0} where
  -- a new connection: all that is out of the pool is out for others
  abbrev pub at_first : Pool S → Point S
  at_first pool = record { state = nothing_yet new_session; pool = pool; others = out_of pool }

  -- each seat that is out is held by the connection, or is out for others
  abbrev pub IsParted : Point S → Type 0
  IsParted point = AreHeldOn point.state point.others (Some point.pool)

  -- a piece comes, the input ends, or what was to be written is
  pub record IsFed (old new : Point S) : Type 0 where
    pub piece : List ℕ
    pub then : new ≡ record old { state = with_piece old.state piece }

  abbrev pub EndsInput : (old new : Point S) → Type 0
  EndsInput old new = new ≡ record old { state = with_end old.state }

  abbrev pub IsWritten : (old new : Point S) → Type 0
  IsWritten old new = new ≡ record old { state = without_out old.state }

  -- others take and give back seats of the pool, and leave those of this connection out
  pub record OthersGoOn (old new : Point S) : Type 0 where
    pub state : new.state ≡ old.state
    pub parted : IsParted new

module _ {W S : Type 0} (w : world.Ghosts W) (t : sitting.Ghosts S W) (exact : Bool)
    (route : Route) where
  -- it takes a step at some moment, whatever the step answers
  pub record TakesStep (old new : Point S) : Type 0 where
    pub now : ℕ
    pub answer : Stepped
    pub before : Outside S
    pub behind : Outside S
    pub told : before.door.pool ≡ Some old.pool
    pub told_then : behind.door.pool ≡ Some new.pool
    pub of : IsConnOf w t route before.door.counts.most old.state
    pub stepped : IsStepped w t exact route now old.state new.state answer before behind
    pub others : new.others ≡ old.others

  -- one of these
  abbrev pub GoesAlone : (old new : Point S) → Type 0
  GoesAlone old new = TakesStep old new ⊎ IsFed old new ⊎ EndsInput old new ⊎ IsWritten old new

  -- or others go on
  abbrev pub GoesAmong : (old new : Point S) → Type 0
  GoesAmong old new = GoesAlone old new ⊎ OthersGoOn old new

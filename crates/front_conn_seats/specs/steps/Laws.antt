-- For contracts alone: each seat that a connection held is given back (this project's own). All of
-- it holds at want of memory too
use Rattle.std.specs.Prelude.{◌≡◌, ℕ, ◌+◌, Bool, List, ◌++◌, Option, option_map}
use Rattle.z_types.specs.Chains.{GoesThrough, last_of}
use Rattle.z_types.specs.declared.sitting.Sitting as sitting
use Rattle.z_types.specs.declared.work.Work.{Work}
use Rattle.z_types.specs.declared.world.World as world
use Rattle.route_config.specs.declared.route.Route.{Route}
use Rattle.pool_sets.specs.Plain.{Ascends, Pool, out_of}
use Rattle.pool_sets.specs.declared.doors.Seat.{Seat}
use Rattle.front_conn.specs.leg.Deeds.{BackendView}
use Rattle.front_conn.specs.leg.Phases.{given_up}
use Rattle.front_conn.specs.leg.Terms.{Terms}
use Rattle.front_conn.specs.leg.Turns.{DoorView, GivesUp, IsTurn}
use Rattle.front_conn.specs.leg.declared.accounts.Account.{Account}
use Rattle.front_conn.specs.leg.declared.answers.Turned.{Turned}
use Rattle.front_conn.specs.leg.declared.phases.Phase.{Phase}
use Rattle.front_conn.specs.leg.declared.tasks.Task.{Task}
use Rattle.front_conn.specs.package.steps.Ends.{gave_all_up, lost_seats}
use Rattle.front_conn.specs.package.steps.Packages.{AsksSo, PackageView, new_package}
use Rattle.front_conn.specs.package.steps.Turns.{IsPackageTurn}
use Rattle.front_conn.specs.declared.stepped.Stepped.{Stepped}
use Rattle.front_conn.specs.steps.Answering.{Outside, legs_in}
use Rattle.front_conn.specs.steps.Feeding.{without_work}
use Rattle.front_conn.specs.steps.States.{ConnectionState, IsConnOf}
use Rattle.front_conn.specs.steps.Steps.{IsStepped}
use Rattle.front_conn_seats.specs.steps.Seats.{AreHeld, AreHeldOn, AreOutOf, IsHeld, held_in, no_seat}
use Rattle.front_conn_seats.specs.steps.Through.{GoesAlone, GoesAmong, IsParted, Point, at_first}

-- ---- a leg

-- a turn leaves each seat that is out for others as it was, and no other is out but that which the
-- leg has then
abbrev pub TurnsKeepSeats : {W S : Type 0} → world.Ghosts W → sitting.Ghosts S W → Type 0
TurnsKeepSeats {S = S} w t =
    (exact : Bool) (terms : Terms) (task : Task) (now : ℕ) (old new : Phase S) (a b : Account)
    (answer : Turned) (door after : DoorView S) (backend moved : BackendView) (others : Seat → ℕ)
    → IsTurn w t exact terms task now old new a b answer door after backend moved
    → IsHeld old task others door.pool → IsHeld new task others after.pool

-- a leg that is given up has none, and none is out that was its own
abbrev pub LegsGiveBack : (S : Type 0) → Type 0
LegsGiveBack S =
    (task : Task) (phase : Phase S) (before behind : Option (Pool S)) (others : Seat → ℕ)
    → GivesUp phase before behind → IsHeld phase task others before
    → IsHeld (given_up phase) task others behind × AreOutOf no_seat others behind

-- ---- a package

-- one that is begun holds none
abbrev pub BegunHoldsNone : (S : Type 0) → Type 0
BegunHoldsNone S =
    (route : Route) (work : Work) (others : Seat → ℕ) (pool : Option (Pool S))
    → AreOutOf no_seat others pool
    → AreHeld
    ((new_package {S = S} route work).first ++ (new_package {S = S} route work).later) others pool

abbrev pub PackagesKeepSeats : {W S : Type 0} → world.Ghosts W → sitting.Ghosts S W → Type 0
PackagesKeepSeats {S = S} w t =
    (exact : Bool) (route : Route) (now : ℕ) (old new : PackageView S) (answer : Turned)
    (door after : DoorView S) (backend moved : BackendView) (others : Seat → ℕ)
    → AsksSo route old → IsPackageTurn w t exact route now old new answer door after backend moved
    → AreHeld (old.first ++ old.later) others door.pool
    → AreHeld (new.first ++ new.later) others after.pool

-- behind it none is out that was held by its legs, and its legs hold none
abbrev pub PackagesGiveBack : (S : Type 0) → Type 0
PackagesGiveBack S =
    (view : PackageView S) (before behind : Option (Pool S)) (others : Seat → ℕ)
    → behind ≡ option_map (lost_seats (view.first ++ view.later)) before
    → AreHeld (view.first ++ view.later) others before
    → AreHeld ((gave_all_up view).first ++ (gave_all_up view).later) others behind
    × AreOutOf no_seat others behind

-- ---- a connection

module _ {W S : Type 0} (w : world.Ghosts W) (t : sitting.Ghosts S W) where
  abbrev pub StepsKeepSeats : Type 0
  StepsKeepSeats =
      (exact : Bool) (route : Route) (now : ℕ) (old new : ConnectionState S) (answer : Stepped)
      (before behind : Outside S) (others : Seat → ℕ)
      → IsConnOf w t route before.door.counts.most old
      → IsStepped w t exact route now old new answer before behind
      → AreHeldOn old others before.door.pool → AreHeldOn new others behind.door.pool

  -- so what others hold stays out, over its step, for them: a connection, or several, that hold
  -- these seats
  abbrev pub StepsLeaveOthers : Type 0
  StepsLeaveOthers =
      (exact : Bool) (route : Route) (now : ℕ) (old new : ConnectionState S) (answer : Stepped)
      (before behind : Outside S) (held others : Seat → ℕ)
      → IsConnOf w t route before.door.counts.most old
      → IsStepped w t exact route now old new answer before behind
      → AreHeldOn old (λ seat. held seat + others seat) before.door.pool
      → AreOutOf held (λ seat. held_in (legs_in new.in_work) seat + others seat) behind.door.pool

-- one that is given up: its request in work is none, and what is out is out for others
abbrev pub ConnectionsGiveBack : (S : Type 0) → Type 0
ConnectionsGiveBack S =
    (state : ConnectionState S) (before behind : Option (Pool S)) (others : Seat → ℕ)
    → behind ≡ option_map (lost_seats (legs_in state.in_work)) before
    → AreHeldOn state others before
    → AreHeldOn (without_work state) others behind × AreOutOf no_seat others behind

-- ---- all that a connection goes through

-- the pool of a point, once the connection is given up there
abbrev pub pool_behind : {S : Type 0} → Point S → Pool S
pool_behind point = lost_seats (legs_in point.state.in_work) point.pool

module _ {W S : Type 0} (w : world.Ghosts W) (t : sitting.Ghosts S W) where
  abbrev pub GoesParted : Type 0
  GoesParted =
      (exact : Bool) (route : Route) (start : Point S) (points : List (Point S))
      → GoesThrough (GoesAmong w t exact route) start points → IsParted start
      → IsParted (last_of start points)

  -- a new connection among others that is given up in the end: what is out then is what is out for
  -- others
  abbrev pub RunsGiveBack : Type 0
  RunsGiveBack =
      (exact : Bool) (route : Route) (pool : Pool S) (points : List (Point S)) (seat : Seat)
      → Ascends 0 pool.given pool.sessions
      → GoesThrough (GoesAmong w t exact route) (at_first pool) points
      → out_of (pool_behind (last_of (at_first pool) points)) seat
      ≡ (last_of (at_first pool) points).others seat

  -- and where no others go on: what was out before
  abbrev pub RunsAloneGiveBack : Type 0
  RunsAloneGiveBack =
      (exact : Bool) (route : Route) (pool : Pool S) (points : List (Point S)) (seat : Seat)
      → Ascends 0 pool.given pool.sessions
      → GoesThrough (GoesAlone w t exact route) (at_first pool) points
      → out_of (pool_behind (last_of (at_first pool) points)) seat ≡ out_of pool seat

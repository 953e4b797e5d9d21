-- For contracts alone: what a connection's calls do, and what others do, is among what it may go
-- through, from wherever it has come (this project's own). So the laws on all that it goes through
-- leave no call out
use Rattle.std.specs.Prelude.{◌≡◌, ℕ, Bool, List, [], ◌∷◌, ◌++◌, Some}
use Rattle.z_types.specs.Chains.{GoesThrough, last_of}
use Rattle.z_types.specs.declared.sitting.Sitting as sitting
use Rattle.z_types.specs.declared.world.World as world
use Rattle.route_config.specs.declared.route.Route.{Route}
use Rattle.pool_sets.specs.Plain.{Pool}
use Rattle.pool_sets.specs.declared.doors.Seat.{Seat}
use Rattle.front_conn.specs.declared.stepped.Stepped.{Stepped}
use Rattle.front_conn.specs.steps.Answering.{Outside}
use Rattle.front_conn.specs.steps.Feeding.{with_end, with_piece, without_out}
use Rattle.front_conn.specs.steps.States.{ConnectionState, IsConnOf}
use Rattle.front_conn.specs.steps.Steps.{IsStepped}
use Rattle.front_conn_seats.specs.steps.Seats.{AreHeldOn}
use Rattle.front_conn_seats.specs.steps.Through.{GoesAlone, GoesAmong, Point}

-- ---- the ways from a point

module _ {W S : Type 0} (w : world.Ghosts W) (t : sitting.Ghosts S W) (exact : Bool) (route : Route)
    (point : Point S) where
  -- a step at any moment, whatever it answers, over a pool that is told
  abbrev pub IsStepAWay : Type 0
  IsStepAWay =
      (now : ℕ) (new : ConnectionState S) (pool : Pool S) (answer : Stepped)
      (before behind : Outside S)
      → before.door.pool ≡ Some point.pool → behind.door.pool ≡ Some pool
      → IsConnOf w t route before.door.counts.most point.state
      → IsStepped w t exact route now point.state new answer before behind
      → GoesAlone w t exact route point (record point { state = new; pool = pool })

  -- each call of the connection, and whatever others do that leaves it the seats that it holds
  pub record AreWays : Type 0 where
    pub step : IsStepAWay
    pub feed : (piece : List ℕ)
        → GoesAlone w t exact route point (record point { state = with_piece point.state piece })
    pub end_input : GoesAlone w t exact route point (record point { state = with_end point.state })
    pub clear_out : GoesAlone w t exact route point
        (record point { state = without_out point.state })
    pub alone : (next : Point S) → GoesAlone w t exact route point next
        → GoesAmong w t exact route point next
    pub among : (pool : Pool S) (others : Seat → ℕ) → AreHeldOn point.state others (Some pool)
        → GoesAmong w t exact route point (record point { pool = pool; others = others })

-- ---- one behind another

-- it stays where it is; and from where it has come it goes on to the next point, which is the last
-- then
pub record GoesOnFrom {S : Type 0} (Goes : (old new : Point S) → Type 0)
    (start : Point S) : Type 0 where
  pub stays : GoesThrough Goes start []
  pub here : last_of start [] ≡ start
  pub further : (points : List (Point S)) (next : Point S) → GoesThrough Goes start points
      → Goes (last_of start points) next → GoesThrough Goes start (points ++ next ∷ [])
  pub there : (points : List (Point S)) (next : Point S)
      → last_of start (points ++ next ∷ []) ≡ next

-- ---- the laws

module _ {W S : Type 0} (w : world.Ghosts W) (t : sitting.Ghosts S W) where
  abbrev pub CallsAreWays : Type 0
  CallsAreWays = (exact : Bool) (route : Route) (point : Point S) → AreWays w t exact route point

  abbrev pub WaysGoOn : Type 0
  WaysGoOn =
      (exact : Bool) (route : Route) (start : Point S)
      → GoesOnFrom (GoesAlone w t exact route) start × GoesOnFrom (GoesAmong w t exact route) start

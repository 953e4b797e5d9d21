-- What a front does that serves many connections (this project's own): each connection that it
-- takes is served and handed back, and what came of it is listed; or it is given up
use Rattle.std.specs.Prelude.{◌≡◌, ℕ, ◌+◌, ◌-◌, ◌*◌, ◌≤◌, List, [], ◌++◌, length, Option, None, Some, option_map}
use Rattle.std.specs.List.{AllByRecursion, AllZip, sum_by}
use Rattle.z_types.specs.Bounds.{most_legs}
use Rattle.z_types.specs.Counts.{Rose}
use Rattle.z_types.specs.declared.world.World as world
use Rattle.route_config.specs.declared.route.PoolNumbers.{PoolNumbers}
use Rattle.route_config.specs.declared.route.Route.{Route}
use Rattle.event_outside.specs.Accepts.{IsNewConnection}
use Rattle.event_outside.specs.declared.accepts.EdgeAccept as accept
use Rattle.event_outside.specs.declared.accepts.EdgeAccepted.TheVariants.{Connection}
use Rattle.event_outside.specs.declared.sinks.EdgeSink as to
use Rattle.event_outside.specs.declared.sources.EdgeSource as from
use Rattle.event_front.specs.Edges.{streams}
use Rattle.event_front.specs.conn_served.Costs.{AreMarksOf, AreMet, ArePaid, Tally, needed, undialled}
use Rattle.event_front.specs.conn_served.Serving.{IsServed}
use Rattle.event_front.specs.conn_served.declared.served.Served.{Served}
use Rattle.event_front.specs.conn_served.front_conn_costs.steps.Numbers.{Caused}
use Rattle.event_loop.specs.declared.fronted.Fronted.{Fronted}
use Rattle.event_loop.specs.declared.fronted.Fronted.TheVariants as fronted

-- what came of a front's connections so far; and of its acceptor, where it tells them, how many
-- connections are left, those that were handed back, and how many are out
pub record FrontView (I K : Type 0) : Type 0 where
  pub served : List Served
  pub left : Option ℕ
  pub closed : Option (List (I × K))
  pub out : Option ℕ

abbrev pub front_view : {A I K : Type 0} → accept.Ghosts A I K → List Served → A → FrontView I K
front_view a served acceptor = record {
  served = served;
  left = a.left acceptor;
  closed = a.closed acceptor;
  out = a.out acceptor;
}

-- so many connections were taken, where it is told how many are left
abbrev pub AreTaken : ℕ → Option ℕ → Option ℕ → Type 0
AreTaken count None new = new ≡ None
AreTaken count (Some left) new = (count ≤ left) × (new ≡ Some (left - count))

-- no connection is left, where that is told
abbrev pub IsNoneLeft : Option ℕ → Type 0
IsNoneLeft None = Unit {0}
IsNoneLeft (Some left) = left ≡ 0

module _ {W I K : Type 0} (w : world.Ghosts W) (i : from.Ghosts I) (k : to.Ghosts K)
    (route : Route) where
  -- A connection was served since it was taken, which these marks and this end came of. It was new
  -- then, where its acceptor tells how many are left.
  pub record IsListed (left : Option ℕ) (connection : I × K) (served : Served) : Type 0 where
    pub input : I
    pub output : K
    pub is_new : IsNewConnection i k left (Connection input output)
    pub is_served : IsServed w route (streams i k input output)
        (streams i k connection.0 connection.1) served.marks served.end

  -- Connections were taken; those that came to their end were handed back and listed, in one order,
  -- and behind them others were handed back that were given up. None is out.
  pub record HasFronted (given_up : List (I × K)) (old new : FrontView I K) : Type 0 where
    pub connections : List (I × K)
    pub others : List Served
    pub served : new.served ≡ old.served ++ others
    pub closed : new.closed
        ≡ option_map (λ earlier. earlier ++ (connections ++ given_up)) old.closed
    pub each : AllZip (IsListed old.left) connections others
    pub taken : AreTaken (length others + length given_up) old.left new.left
    pub out : new.out ≡ old.out

-- a fault of the acceptor, or of the poller, is behind an end by it
abbrev pub IsFrontCaused : Fronted → (accepts accepted polls polled : ℕ) → Type 0
IsFrontCaused fronted.Ended accepts accepted polls polled = Unit {0}
IsFrontCaused fronted.AcceptFailed accepts accepted polls polled = Rose accepts accepted
IsFrontCaused fronted.PollFailed accepts accepted polls polled = Rose polls polled
IsFrontCaused fronted.Memory accepts accepted polls polled = Unit {0}

-- ---- what its connections cost

-- how often the causes of their marks of a kind were met, at least
abbrev pub needed_by : PoolNumbers → List Served → Caused → ℕ
needed_by pool served kind = sum_by (λ (one : Served). needed pool one.marks kind) served

-- how many addresses they may leave undialled
abbrev pub undialled_by : List Served → ℕ
undialled_by served = sum_by (λ (one : Served). undialled one.end) served

-- Connections were listed behind those before, and that is what they cost: no mark of theirs is
-- invented, over all of them, and what they searched and were named is paid for. So many more were
-- given up, each of which may leave undialled as many addresses as a request has legs.
pub record HaveCost (pool : PoolNumbers) (given_up : ℕ) (old new : List Served)
    (before behind : Tally) : Type 0 where
  pub others : List Served
  pub served : new ≡ old ++ others
  pub causes : AreMet (needed_by pool others) before behind
  pub marks : AllByRecursion (λ (one : Served). AreMarksOf pool before.door.most one.marks) others
  pub paid : ArePaid (undialled_by others + given_up * most_legs) before behind

-- ---- what a front did

module _ {W I K : Type 0} (w : world.Ghosts W) (i : from.Ghosts I) (k : to.Ghosts K)
    (route : Route) where
  -- connections were served, and these given up behind them; and that is what they cost
  abbrev pub HasServed : (given_up : List (I × K)) → (old new : FrontView I K)
      → (before behind : Tally) → Type 0
  HasServed given_up old new before behind =
      HasFronted w i k route given_up old new
      × HaveCost route.pool (length given_up) old.served new.served before behind

  -- By how the front ended: where no connection is left, none was given up, and so where an accept
  -- failed. Where a wait failed, or memory was wanting, those were that were open.
  abbrev pub HasServedTo : Fronted → (old new : FrontView I K) → (before behind : Tally) → Type 0
  HasServedTo fronted.Ended old new before behind =
      HasServed [] old new before behind × IsNoneLeft new.left
  HasServedTo fronted.AcceptFailed old new before behind = HasServed [] old new before behind
  HasServedTo fronted.PollFailed old new before behind =
      (given_up : List (I × K)) × HasServed given_up old new before behind
  HasServedTo fronted.Memory old new before behind =
      (given_up : List (I × K)) × HasServed given_up old new before behind

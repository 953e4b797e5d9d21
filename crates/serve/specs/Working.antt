-- What a worker does (this project's own): each connection that it takes is served and handed back,
-- and what came of it is listed
use Rattle.std.specs.Prelude.{◌≡◌, ℕ, ◌-◌, ◌≤◌, List, ◌++◌, length, Option, None, Some, option_map}
use Rattle.std.specs.List.{AllByRecursion, AllZip, sum_by}
use Rattle.z_types.specs.declared.world.World as world
use Rattle.route_config.specs.declared.route.PoolNumbers.{PoolNumbers}
use Rattle.route_config.specs.declared.route.Route.{Route}
use Rattle.gw_outside.specs.declared.accepts.Accept as accept
use Rattle.gw_outside.specs.declared.accepts.Accepted.TheVariants.{Connection}
use Rattle.gw_outside.specs.declared.sinks.Sink as to
use Rattle.gw_outside.specs.declared.sources.Source as from
use Rattle.gw_outside.specs.Accepts.{IsNewConnection}
use Rattle.conn_served.specs.front_conn_costs.steps.Numbers.{Caused}
use Rattle.conn_served.specs.Costs.{AreMarksOf, AreMet, ArePaid, Tally, needed, undialled}
use Rattle.conn_served.specs.Serving.{IsServed, streams}
use Rattle.conn_served.specs.declared.served.Served.{Served}

-- what came of a worker's connections so far; and of its acceptor, where it tells them, how many
-- connections are left, those that were handed back, and how many are out
pub record WorkerView (I K : Type 0) : Type 0 where
  pub served : List Served
  pub left : Option ℕ
  pub closed : Option (List (I × K))
  pub out : Option ℕ

abbrev pub worker_view : {A I K : Type 0} → accept.Ghosts A I K → List Served → A → WorkerView I K
worker_view a served acceptor = record {
  served = served;
  left = a.left acceptor;
  closed = a.closed acceptor;
  out = a.out acceptor;
}

-- so many connections were taken, where it is told how many are left
abbrev pub AreTaken : ℕ → Option ℕ → Option ℕ → Type 0
AreTaken count None new = new ≡ None
AreTaken count (Some left) new = (count ≤ left) × (new ≡ Some (left - count))

-- no connection is left, where that is told
abbrev pub IsNoneLeft : Option ℕ → Type 0
IsNoneLeft None = Unit {0}
IsNoneLeft (Some left) = left ≡ 0

module _ {W I K : Type 0} (w : world.Ghosts W) (i : from.Ghosts I) (k : to.Ghosts K)
    (route : Route) where
  -- A connection was served since it was taken, which these marks and this end came of. It was new
  -- then, where its acceptor tells how many are left.
  pub record IsListed (left : Option ℕ) (connection : I × K) (served : Served) : Type 0 where
    pub input : I
    pub output : K
    pub is_new : IsNewConnection i k left (Connection input output)
    pub is_served : IsServed w route (streams i k input output)
        (streams i k connection.0 connection.1) served.marks served.end

  -- Connections were taken, served and handed back, and what came of each was listed, in one order.
  -- None is out.
  pub record HasWorked (old new : WorkerView I K) : Type 0 where
    pub connections : List (I × K)
    pub others : List Served
    pub served : new.served ≡ old.served ++ others
    pub closed : new.closed ≡ option_map (λ earlier. earlier ++ connections) old.closed
    pub each : AllZip (IsListed old.left) connections others
    pub taken : AreTaken (length others) old.left new.left
    pub out : new.out ≡ old.out

-- ---- what its connections cost

-- how often the causes of their marks of a kind were met, at least
abbrev pub needed_by : PoolNumbers → List Served → Caused → ℕ
needed_by pool served kind = sum_by (λ (one : Served). needed pool one.marks kind) served

-- how many addresses they may leave undialled
abbrev pub undialled_by : List Served → ℕ
undialled_by served = sum_by (λ (one : Served). undialled one.end) served

-- all their marks say as many looks as the pool is patient, and as many sessions as the door opens
abbrev pub AreAllMarksOf : PoolNumbers → (most : ℕ) → List Served → Type 0
AreAllMarksOf pool most served =
    AllByRecursion (λ (one : Served). AreMarksOf pool most one.marks) served

-- Connections were listed behind those before, and that is what they cost: no mark of theirs is
-- invented, over all of them, and what they searched and were named is paid for.
pub record HaveCost (pool : PoolNumbers) (old new : List Served)
    (before behind : Tally) : Type 0 where
  pub others : List Served
  pub served : new ≡ old ++ others
  pub causes : AreMet (needed_by pool others) before behind
  pub marks : AreAllMarksOf pool before.door.most others
  pub paid : ArePaid (undialled_by others) before behind

-- For contracts alone: the connections that are open, each at its place (this project's own)
use Rattle.std.specs.Prelude.{◌≡◌, ℕ, ◌+◌, ◌*◌, ◌≤◌, ◌<◌, List, [], ◌++◌, get_or, length, slice_set, Option, None, Some, IsSome, option_map}
use Rattle.std.specs.List.{AllByRecursion, AllZip, sum_by}
use Rattle.z_types.specs.Bounds.{most_legs}
use Rattle.z_types.specs.Counts.{Rose}
use Rattle.z_types.specs.declared.sitting.Sitting as sitting
use Rattle.z_types.specs.declared.world.World as world
use Rattle.route_config.specs.declared.route.PoolNumbers.{PoolNumbers}
use Rattle.route_config.specs.declared.route.Route.{Route}
use Rattle.pool_sets.specs.Plain.{Ascends, Pool, out_of}
use Rattle.pool_sets.specs.declared.doors.Door as door
use Rattle.pool_sets.specs.declared.doors.Seat.{Seat}
use Rattle.event_outside.specs.Accepts.{IsNewConnection}
use Rattle.event_outside.specs.declared.accepts.EdgeAccepted.TheVariants.{Connection}
use Rattle.event_outside.specs.declared.sinks.EdgeSink as to
use Rattle.event_outside.specs.declared.sources.EdgeSource as from
use Rattle.event_front.specs.Edges.{streams}
use Rattle.event_front.specs.Tasks.{Owes, Stands, TaskView}
use Rattle.event_front.specs.conn_served.Costs.{AreMarksOf}
use Rattle.event_front.specs.conn_served.declared.served.Served.{Served}
use Rattle.event_front.specs.conn_served.front_conn.steps.Answering.{Outside, legs_in}
use Rattle.event_front.specs.conn_served.front_conn.steps.States.{IsConnOf}
use Rattle.event_front.specs.conn_served.front_conn_costs.steps.Conns.{dues_on, met_on, outside_meets}
use Rattle.event_front.specs.conn_served.front_conn_costs.steps.Growth.{RisesEnough}
use Rattle.event_front.specs.conn_served.front_conn_costs.steps.Ledgers.{Cost, IsRaised}
use Rattle.event_front.specs.conn_served.front_conn_costs.steps.Numbers.{Caused}
use Rattle.front_conn_seats.specs.steps.Seats.{AreOutOf, DoesItsTask, held_in}
use Rattle.event_front.specs.conn_served.leg.Deeds.{BackendView}
use Rattle.event_front.specs.conn_served.leg.LegView.{LegView}
use Rattle.event_loop.specs.Fronts.{AreTaken, FrontView, IsFrontCaused, IsListed, IsNoneLeft, needed_by, undialled_by}
use Rattle.event_loop.specs.declared.fronted.Fronted.{Fronted}
use Rattle.event_loop.specs.declared.fronted.Fronted.TheVariants as fronted
use Rattle.event_loop.specs.declared.places.Coming.{Coming}
use Rattle.event_loop.specs.declared.places.Coming.TheVariants as coming

-- a door and a backend
abbrev pub outside_with : {W S D : Type 0} → door.Ghosts D W S → D → BackendView → Outside S
outside_with d pool backend = record {
  door = record { pool = d.pool pool; counts = d.counts pool };
  backend = backend;
}

-- ---- where connections come from

-- none is left, where that is told; or an accept failed
abbrev pub ComesTo : Coming → (from then : ℕ) → (left : Option ℕ) → Type 0
ComesTo coming.On from then left = Unit {0}
ComesTo coming.Ended from then left = IsNoneLeft left
ComesTo coming.Failed from then left = Rose from then

-- how a front ends then, once no connection is open
abbrev pub end_by : Coming → Option Fronted
end_by coming.On = None
end_by coming.Ended = Some fronted.Ended
end_by coming.Failed = Some fronted.AcceptFailed

-- ---- what a place counts for

module _ {S I K : Type 0} where
  -- no connection is open
  abbrev pub AreNone : List (Option (TaskView S I K)) → Type 0
  AreNone places = (place : ℕ) → get_or places place None ≡ None

  -- one where a connection is open
  abbrev pub open_at : Option (TaskView S I K) → ℕ
  open_at None = 0
  open_at (Some task) = 1

  -- how often the causes of its marks of a kind were met
  abbrev pub met_at : PoolNumbers → Caused → Option (TaskView S I K) → ℕ
  met_at pool kind None = 0
  met_at pool kind (Some task) = met_on pool kind task.conn

  -- what is paid for, and not used yet
  abbrev pub searches_at : Option (TaskView S I K) → ℕ
  searches_at None = 0
  searches_at (Some task) = (dues_on task.conn).searches

  abbrev pub unused_at : Option (TaskView S I K) → ℕ
  unused_at None = 0
  unused_at (Some task) = (dues_on task.conn).unused

  -- the legs in work, and how often those of all places hold a seat
  abbrev pub legs_at : Option (TaskView S I K) → List (LegView S)
  legs_at None = []
  legs_at (Some task) = legs_in task.conn.in_work

  abbrev pub held_at_place : Seat → Option (TaskView S I K) → ℕ
  held_at_place seat here = held_in (legs_at here) seat

  abbrev pub held_by : List (Option (TaskView S I K)) → Seat → ℕ
  held_by places seat = sum_by (held_at_place seat) places

  -- legs do their tasks
  abbrev pub DoesAt : Option (TaskView S I K) → Type 0
  DoesAt here = AllByRecursion (λ leg. DoesItsTask leg.phase leg.task) (legs_at here)

  -- legs do their tasks, and each seat that is out is held by one of them, or is out for others
  pub record AreSeated (places : List (Option (TaskView S I K))) (others : Seat → ℕ)
      (here : Option (Pool S)) : Type 0 where
    pub does : (place : ℕ) → DoesAt (get_or places place None)
    pub out : AreOutOf (held_by places) others here

  -- over a told pool others are those that were out before
  abbrev pub AreSeatedSince : (places : List (Option (TaskView S I K)))
      → (before here : Option (Pool S)) → Type 0
  AreSeatedSince places None here = Unit {0}
  AreSeatedSince places (Some pool) here =
      Ascends 0 pool.given pool.sessions → AreSeated places (out_of pool) here

-- a connection is there that has come to its end
abbrev pub HasEndedAt : {S I K : Type 0} → Option (TaskView S I K) → Type 0
HasEndedAt None = ⊥
HasEndedAt (Some task) = IsSome task.ended

-- where no connection is left, and where an accept failed, none is open
abbrev pub IsOver : {S I K : Type 0} → Fronted → List (Option (TaskView S I K))
    → (left : Option ℕ) → Type 0
IsOver fronted.Ended places left = (sum_by open_at places ≡ 0) × IsNoneLeft left
IsOver fronted.AcceptFailed places left = sum_by open_at places ≡ 0
IsOver fronted.PollFailed places left = Unit {0}
IsOver fronted.Memory places left = Unit {0}

-- and the end has its cause
abbrev pub EndsSo : {S I K : Type 0} → Fronted → List (Option (TaskView S I K))
    → (accepts accepted polls polled : ℕ) → (left : Option ℕ) → Type 0
EndsSo how places accepts accepted polls polled left =
    IsOver how places left × IsFrontCaused how accepts accepted polls polled

module _ {W S I K : Type 0} (w : world.Ghosts W) (t : sitting.Ghosts S W) (i : from.Ghosts I)
    (k : to.Ghosts K) (route : Route) where
  -- a connection that was taken of an acceptor that told how many are left: it stands there in its
  -- session, is of the route, and owes as few addresses as one that is served alone
  pub record IsTask (left : Option ℕ) (most : ℕ) (task : TaskView S I K) : Type 0 where
    pub input : I
    pub output : K
    pub is_new : IsNewConnection i k left (Connection input output)
    pub stands : Stands w route (streams i k input output) (streams i k task.input task.output)
        task.conn task.written task.ended
    pub of : IsConnOf w t route most task.conn
    pub owes : Owes task.conn task.ended
    pub marks : AreMarksOf route.pool most task.conn.marks

  abbrev pub IsPlace : (left : Option ℕ) (most : ℕ) → Option (TaskView S I K) → Type 0
  IsPlace left most None = Unit {0}
  IsPlace left most (Some task) = IsTask left most task

  -- Connections were taken since the front began; some were served, handed back and listed, others
  -- behind them were given up and handed back, and the others are open, each at its place. What was
  -- listed, and what the open ones have met and owe, is what the door and the backend have counted
  -- since; and each seat that is out is held by one of them, or was out before.
  pub record IsFront (start : FrontView I K) (before : Outside S) (gone : List (I × K))
      (places : List (Option (TaskView S I K))) (now : FrontView I K) (here : Outside S)
      : Type 0 where
    pub connections : List (I × K)
    pub others : List Served
    pub served : now.served ≡ start.served ++ others
    pub closed : now.closed
        ≡ option_map (λ earlier. earlier ++ (connections ++ gone)) start.closed
    pub each : AllZip (IsListed w i k route start.left) connections others
    pub taken : AreTaken (length others + length gone + sum_by open_at places) start.left now.left
    pub out : now.out ≡ option_map (λ count. count + sum_by open_at places) start.out
    pub most : here.door.counts.most ≡ before.door.counts.most
    pub tasks : (place : ℕ)
        → IsPlace start.left before.door.counts.most (get_or places place None)
    pub marks : AllByRecursion
        (λ (one : Served). AreMarksOf route.pool before.door.counts.most one.marks) others
    pub causes : (kind : Caused)
        → RisesEnough 0
        (needed_by route.pool others kind + sum_by (met_at route.pool kind) places)
        (outside_meets kind before) (outside_meets kind here)
    pub cost : Cost
    pub raised : IsRaised cost before.door.counts here.door.counts before.backend.counts
        here.backend.counts
    pub searches : cost.searches + sum_by searches_at places
        ≤ cost.booked + cost.gones + cost.faults
    pub opens : cost.opens ≤ cost.dials + cost.faults
        + (sum_by unused_at places + (undialled_by others + length gone * most_legs))
    pub seats : AreSeatedSince places before.door.pool here.door.pool

  -- since some start, with none given up
  unfoldable pub IsSomeFront : (places : List (Option (TaskView S I K))) → (now : FrontView I K)
      → (here : Outside S) → Type 0
  IsSomeFront places now here =
      (start : FrontView I K) × (before : Outside S) × IsFront start before [] places now here

  -- ---- what goes on

  -- a front that has this at a place has that there then, whenever it began
  unfoldable pub ServesOn : (old new : Option (TaskView S I K)) → (now then : FrontView I K)
      → (here next : Outside S) → Type 0
  ServesOn old new now then here next =
      (start : FrontView I K) (before : Outside S) (places : List (Option (TaskView S I K)))
      (at : ℕ) → at < length places → get_or places at None ≡ old
      → IsFront start before [] places now here
      → IsFront start before [] (slice_set places at new) then next

  -- and so with all places
  unfoldable pub GoesOnWith : (old new : List (Option (TaskView S I K)))
      → (now then : FrontView I K) → (here next : Outside S) → Type 0
  GoesOnWith old new now then here next =
      (start : FrontView I K) (before : Outside S) → IsFront start before [] old now here
      → IsFront start before [] new then next

  -- ---- what is given up

  -- others were given up before; then so is the connection of a place, where one is open
  pub record IsGoneAt (start : FrontView I K) (before : Outside S) (gone : List (I × K))
      (places left : List (Option (TaskView S I K))) (then : FrontView I K) (next : Outside S)
      : Type 0 where
    pub all : List (I × K)
    pub front : IsFront start before all left then next
    pub many : length all + sum_by open_at left ≡ length gone + sum_by open_at places

  unfoldable pub GivesUp : (old : Option (TaskView S I K)) → (now then : FrontView I K)
      → (here next : Outside S) → Type 0
  GivesUp old now then here next =
      (start : FrontView I K) (before : Outside S) (gone : List (I × K))
      (places : List (Option (TaskView S I K))) (at : ℕ) → at < length places
      → get_or places at None ≡ old → IsFront start before gone places now here
      → IsGoneAt start before gone places (slice_set places at None) then next

  -- all that were open were given up, and none is open
  pub record IsAllGone (start : FrontView I K) (before : Outside S)
      (places : List (Option (TaskView S I K))) (then : FrontView I K) (next : Outside S)
      : Type 0 where
    pub all : List (I × K)
    pub left : List (Option (TaskView S I K))
    pub front : IsFront start before all left then next
    pub many : length all ≡ sum_by open_at places
    pub none : sum_by open_at left ≡ 0

  unfoldable pub GivesAllUp : (old : List (Option (TaskView S I K))) → (now then : FrontView I K)
      → (here next : Outside S) → Type 0
  GivesAllUp old now then here next =
      (start : FrontView I K) (before : Outside S) → IsFront start before [] old now here
      → IsAllGone start before old then next

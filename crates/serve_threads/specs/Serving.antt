-- What workers did that served side by side over one pool (this project's own)
use Rattle.std.specs.Prelude.{◌≡◌, ◌⊎◌, ℕ, ◌+◌, ◌≤◌, ◌<◌, List, [], ◌∷◌}
use Rattle.std.specs.List.{AllByRecursion, AllZip, sum_by}
use Rattle.z_types.specs.Counts.{Rose}
use Rattle.z_types.specs.declared.world.World as world
use Rattle.route_config.specs.declared.route.PoolNumbers.{PoolNumbers}
use Rattle.route_config.specs.declared.route.Route.{Route}
use Rattle.gw_outside.specs.Counts.{Counts}
use Rattle.gw_outside.specs.declared.accepts.Accept as accept
use Rattle.gw_outside.specs.declared.sinks.Sink as to
use Rattle.gw_outside.specs.declared.sources.Source as from
use Rattle.gw_outside.specs.declared.watched.Watched as watched
use Rattle.serve.specs.front_conn_costs.steps.Conns.{marks_of}
use Rattle.serve.specs.front_conn_costs.steps.Growth.{RisesEnough, last64}
use Rattle.serve.specs.front_conn_costs.steps.Numbers.{full, gone, link, silent}
use Rattle.serve.specs.Working.{AreAllMarksOf, HasWorked, IsNoneLeft, WorkerView, needed_by, undialled_by, worker_view}
use Rattle.serve.specs.conn_served.declared.served.Served.{Served}
use Rattle.serve.specs.declared.working.Worked.{Worked}
use Rattle.serve.specs.declared.working.Worked.TheVariants.{Ended, Failed}
use Rattle.serve.specs.declared.working.Worker.{Worker}

-- a relation holds of the items at one place at least
abbrev pub SomeZip : {X : Type 0} → (X → X → Type 0) → List X → List X → Type 0
SomeZip R (x ∷ xs) (y ∷ ys) = R x y ⊎ SomeZip R xs ys
SomeZip R [] ys = ⊥
SomeZip R (x ∷ xs) [] = ⊥

module _ {A B C I K : Type 0} (a : accept.Ghosts A I K) where
  -- what is told of a worker
  abbrev pub view_of : Worker B A C → WorkerView I K
  view_of worker = worker_view a worker.served worker.accept

  -- no connection is left to a worker, where that is told
  abbrev pub HasNoneLeft : Worker B A C → Type 0
  HasNoneLeft worker = IsNoneLeft (a.left worker.accept)

  -- the count of a worker's accepts that failed rose
  abbrev pub HasFailed : Worker B A C → Worker B A C → Type 0
  HasFailed old new = Rose (a.faults old.accept) (a.faults new.accept)

-- ---- what marks come of

-- No Link, Silent or Gone of these connections is invented: for each Link the backend counted a
-- fault, for each Silent as many looks in vain as the pool is patient, and for each Gone one Gone
-- more than it repeats.
pub record HaveBackendCauses (pool : PoolNumbers) (served : List Served)
    (before behind : Counts) : Type 0 where
  pub links : RisesEnough 0 (needed_by pool served link) before.faults behind.faults
  pub silents : RisesEnough 0 (needed_by pool served silent) before.waits behind.waits
  pub gones : RisesEnough 0 (needed_by pool served gone) before.gones behind.gones

-- how many of their marks are Full
abbrev pub fulls_in : List Served → ℕ
fulls_in served = sum_by (λ (one : Served). marks_of full one.marks) served

-- neither links that were made nor calls that failed have come to the end of their count
pub record AreDialsBelowEnd (counts : Counts) : Type 0 where
  pub dials : counts.dials < last64
  pub faults : counts.faults < last64

module _ {A B C : Type 0} (b : watched.Ghosts B) where
  -- the links that were made, the calls that failed, and the addresses that connections without
  -- memory may have left undialled
  abbrev pub dialled_by : Worker B A C → ℕ
  dialled_by worker =
      (b.counts worker.backend).dials + (b.counts worker.backend).faults
      + undialled_by worker.served

  -- Where a client was told that the pool is full, as many sessions had been dialled, by all
  -- workers, as there may be of a class, or their links had failed; those that were left undialled
  -- for want of memory are among them.
  abbrev pub IsFullCaused : (most : ℕ) → (old new : List (Worker B A C)) → Type 0
  IsFullCaused most old new =
      AllByRecursion (λ (worker : Worker B A C). AreDialsBelowEnd (b.counts worker.backend)) new
      → sum_by (λ (worker : Worker B A C). fulls_in worker.served) old
      < sum_by (λ (worker : Worker B A C). fulls_in worker.served) new
      → sum_by dialled_by old + most ≤ sum_by dialled_by new

-- ---- what searches are paid by

-- neither searches, nor Gones, nor calls that failed have come to the end of their count
pub record AreSearchesBelowEnd (counts : Counts) : Type 0 where
  pub searches : counts.searches < last64
  pub gones : counts.gones < last64
  pub faults : counts.faults < last64

module _ {A B C : Type 0} (b : watched.Ghosts B) where
  abbrev pub searched_by : Worker B A C → ℕ
  searched_by worker = (b.counts worker.backend).searches

  -- the Gones and the calls that failed, behind each of which a leg may search once more
  abbrev pub excused_by : Worker B A C → ℕ
  excused_by worker = (b.counts worker.backend).gones + (b.counts worker.backend).faults

  -- All workers together searched no more often than their pool booked, and sets were gone and
  -- calls failed: no search went round the pool.
  abbrev pub AreBooked : (booked : ℕ) → (old new : List (Worker B A C)) → Type 0
  AreBooked booked old new =
      AllByRecursion (λ (worker : Worker B A C). AreSearchesBelowEnd (b.counts worker.backend)) new
      → booked < last64 → sum_by searched_by new + sum_by excused_by old
      ≤ sum_by searched_by old + sum_by excused_by new + booked

-- ---- workers

module _ {W A B C I K : Type 0} (w : world.Ghosts W) (i : from.Ghosts I) (k : to.Ghosts K)
    (a : accept.Ghosts A I K) (b : watched.Ghosts B) (route : Route) (most : ℕ) where
  -- a worker served each connection that it took, handed it back, and listed what came of it
  pub record HasServed (old new : Worker B A C) : Type 0 where
    pub worked : HasWorked w i k route (view_of a old) (view_of a new)
    pub causes : HaveBackendCauses route.pool worked.others (b.counts old.backend)
        (b.counts new.backend)
    pub marks : AreAllMarksOf route.pool most worked.others
    pub faults : a.faults old.accept ≤ a.faults new.accept

  -- So did each of these workers, which are the same in the same order. Where all of them ended,
  -- none has a connection left; where one failed, its accepts' faults rose. The pool, which all
  -- shared, opened so many sessions of a class at most.
  pub record HaveServed (old new : List (Worker B A C)) (worked : Worked) : Type 0 where
    pub fulls : IsFullCaused b most old new
    pub each : AllZip HasServed old new
    pub ended : worked ≡ Ended → AllByRecursion (HasNoneLeft a) new
    pub failed : worked ≡ Failed → SomeZip (HasFailed a) old new

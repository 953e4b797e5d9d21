-- For contracts alone: what came of jobs, each of which a worker does (this project's own)
use Rattle.std.specs.Prelude.{◌≡◌, ℕ, List, [], ◌∷◌}
use Rattle.z_types.specs.declared.world.World as world
use Rattle.route_config.specs.declared.route.Route.{Route}
use Rattle.gw_outside.specs.declared.accepts.Accept as accept
use Rattle.gw_outside.specs.declared.sinks.Sink as to
use Rattle.gw_outside.specs.declared.sources.Source as from
use Rattle.gw_outside.specs.declared.watched.Watched as watched
use Rattle.pool_locked.specs.Books.{counts_of}
use Rattle.serve.specs.conn_served.Costs.{Tally}
use Rattle.serve.specs.Working.{HaveCost}
use Rattle.serve.specs.declared.working.Worked.{Worked}
use Rattle.serve.specs.declared.working.Worked.TheVariants.{Ended, Failed, Memory}
use Rattle.serve.specs.declared.working.Worker.{Worker}
use Rattle.serve_threads.specs.Serving.{HasFailed, HasNoneLeft, HasServed}

-- of two ends the one that is told: a failed accept before want of memory, and this before the
-- plain end
abbrev pub worse : Worked → Worked → Worked
worse Failed other = Failed
worse Ended other = other
worse Memory Failed = Failed
worse Memory Ended = Memory
worse Memory Memory = Memory

-- of one end and others the one that is told
abbrev pub worst_after : Worked → List Worked → Worked
worst_after worked [] = worked
worst_after worked (other ∷ others) = worst_after (worse worked other) others

-- what the shares of a job hold: how often its door was full, named an address, and booked a search
pub record Amounts : Type 0 where
  pub fulls : ℕ
  pub opens : ℕ
  pub booked : ℕ

abbrev pub amounts : (fulls opens booked : ℕ) → Amounts
amounts fulls opens booked = record { fulls = fulls; opens = opens; booked = booked }

-- what its door and the backend of its worker have counted
abbrev pub tally_with : {A B C : Type 0} → watched.Ghosts B → (most : ℕ) → Amounts
    → Worker B A C → Tally
tally_with b most held worker = record {
  door = counts_of most held.fulls held.opens held.booked;
  backend = b.counts worker.backend;
}

module _ {W A B C I K : Type 0} (w : world.Ghosts W) (i : from.Ghosts I) (k : to.Ghosts K)
    (a : accept.Ghosts A I K) (b : watched.Ghosts B) (route : Route) (most : ℕ) where
  -- a worker served, counting in these shares, and its loop ended so
  pub record IsDone (old : Worker B A C) (before : Amounts) (new : Worker B A C) (behind : Amounts)
      (worked : Worked) : Type 0 where
    pub served : HasServed w i k a b route most old new
    pub cost : HaveCost route.pool old.served new.served (tally_with b most before old)
        (tally_with b most behind new)
    pub ended : worked ≡ Ended → HasNoneLeft a new
    pub failed : worked ≡ Failed → HasFailed a old new

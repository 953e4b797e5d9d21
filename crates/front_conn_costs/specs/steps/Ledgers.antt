-- What the turns of legs have paid for (this project's own). Each search was booked at the door, or
-- follows a Gone or a fault; each address that the door named was dialled, or failed, or is due
use Rattle.std.specs.Prelude.{ℕ, ◌+◌, ◌≤◌, List}
use Rattle.std.specs.List.{sum_by}
use Rattle.gw_outside.specs.Counts.{Counts}
use Rattle.pool_sets.specs.Counts.{DoorCounts}
use Rattle.front_conn.specs.leg.Kept.{ahead_of}
use Rattle.front_conn.specs.leg.LegView.{LegView}
use Rattle.front_conn.specs.leg.Tasks.{want_of}
use Rattle.front_conn_costs.specs.steps.Growth.{RisesAsMuch, RisesEnough}

-- how often each was counted
pub record Cost : Type 0 where
  pub dials : ℕ
  pub searches : ℕ
  pub gones : ℕ
  pub faults : ℕ
  pub booked : ℕ
  pub opens : ℕ

-- the searches, and the door's counts, rose by just so much; links made, Gones and faults by as
-- much at least
pub record IsRaised (cost : Cost) (door after : DoorCounts) (backend moved : Counts) : Type 0 where
  pub searches : RisesAsMuch 0 cost.searches backend.searches moved.searches
  pub booked : RisesAsMuch 0 cost.booked door.booked after.booked
  pub opens : RisesAsMuch 0 cost.opens door.opens after.opens
  pub dials : RisesEnough 0 cost.dials backend.dials moved.dials
  pub gones : RisesEnough 0 cost.gones backend.gones moved.gones
  pub faults : RisesEnough 0 cost.faults backend.faults moved.faults

-- searches that were paid for and may still be sent, and addresses that were named and not dialled
pub record Dues : Type 0 where
  pub searches : ℕ
  pub unused : ℕ

module _ {S : Type 0} where
  -- those of a leg
  abbrev pub dues_of : LegView S → Dues
  dues_of leg = record {
    searches = (ahead_of (want_of leg.task) leg.phase).searches;
    unused = (ahead_of (want_of leg.task) leg.phase).unused;
  }

  -- and of some legs
  abbrev pub dues_in : List (LegView S) → Dues
  dues_in legs = record {
    searches = sum_by (λ leg. (dues_of leg).searches) legs;
    unused = sum_by (λ leg. (dues_of leg).unused) legs;
  }

-- searches are paid by bookings, Gones and faults; named addresses by links made and faults
pub record IsPaid (cost : Cost) (old new : Dues) : Type 0 where
  pub searches : cost.searches + new.searches
      ≤ cost.booked + cost.gones + cost.faults + old.searches
  pub opens : cost.opens + old.unused ≤ cost.dials + cost.faults + new.unused

-- For contracts alone: where a connection stands within a poll (this project's own)
use Rattle.std.specs.Prelude.{◌≡◌, ◌⊎◌, ℕ, Bool, Option, None, Some}
use Rattle.z_types.specs.Counts.{Rose}
use Rattle.z_types.specs.declared.marks.End.{End}
use Rattle.z_types.specs.declared.marks.End.TheVariants as how
use Rattle.z_types.specs.declared.sitting.Sitting as sitting
use Rattle.z_types.specs.declared.world.World as world
use Rattle.route_config.specs.declared.route.Route.{Route}
use Rattle.event_outside.specs.declared.sinks.Wrote.{Wrote}
use Rattle.event_outside.specs.declared.sinks.Wrote.TheVariants.{Failed, NotReady, Whole}
use Rattle.conn_served.specs.Serving.{IsServed, SourceView, Streams}
use Rattle.conn_served.specs.front_conn.steps.Drives.{ConnAt}
use Rattle.conn_served.specs.front_conn.steps.Feeding.{without_out}
use Rattle.conn_served.specs.front_conn.steps.States.{ConnectionState}
use Rattle.conn_served.specs.steps.Serving.{IsServing, IsWrittenOut}
use Rattle.event_front.specs.Edges.{AreInVain, Looks}
use Rattle.event_front.specs.Polls.{GoesRound, HasNotYet, IsAwaited}
use Rattle.event_front.specs.Tasks.{IsOpen}
use Rattle.event_front.specs.declared.awaits.Awaits.TheVariants.{Client, Nothing, Target}
use Rattle.event_front.specs.declared.came.Came.{Came}
use Rattle.event_front.specs.declared.came.Came.TheVariants as came

-- how a connection has ended, if it did
abbrev pub end_of : Came → Option End
end_of (came.To awaits) = None
end_of (came.End end) = Some end

abbrev pub end_in : Option Came → Option End
end_in None = None
end_in (Some come) = end_of come

module _ {W S : Type 0} (w : world.Ghosts W) (route : Route) (start : Streams) where
  -- all that was out is written; or some is left; or the connection was served to its end so
  abbrev pub WritesSo : Wrote → (now : Streams) → ConnectionState S → (done : ℕ) → Type 0
  WritesSo Whole now state done = IsWrittenOut w route start now state
  WritesSo NotReady now state done = IsOpen w route start now state done
  WritesSo Failed now state done = IsServed w route start now state.marks how.WriteFault

  -- it stands in its session, or was served to its end
  abbrev pub StandsBehind : (now : Streams) → ConnectionState S → Option End → Type 0
  StandsBehind now state None = IsServing w route start now state
  StandsBehind now state (Some end) = IsServed w route start now state.marks end

-- what is out is cleared once it is written, and kept as long as it is not
abbrev pub LeavesSo : {S : Type 0} → Wrote → (old new : ConnectionState S) → (done : ℕ) → Type 0
LeavesSo Whole old new done = (new ≡ without_out old) × (done ≡ 0)
LeavesSo NotReady old new done = new ≡ old
LeavesSo Failed old new done = new ≡ old

-- what a read found: nothing yet, or that enough was read
abbrev pub ReadsSo : Option Came → (waited waits left : ℕ) → Type 0
ReadsSo None waited waits left = Unit {0}
ReadsSo (Some (came.To Client)) waited waits left = Rose waited waits
ReadsSo (Some (came.To Target)) waited waits left = ⊥
ReadsSo (Some (came.To Nothing)) waited waits left = left ≡ 0
ReadsSo (Some (came.End end)) waited waits left = Unit {0}

module _ {W S : Type 0} (w : world.Ghosts W) (t : sitting.Ghosts S W) (exact : Bool)
    (route : Route) where
  -- what a round found
  abbrev pub AwaitsSo : Option Came → (last : ConnAt S) → (from then : Looks) → (left : ℕ) → Type 0
  AwaitsSo None last from then left = Unit {0}
  AwaitsSo (Some (came.To Client)) last from then left = AreInVain from then
  AwaitsSo (Some (came.To Target)) last from then left = HasNotYet w t exact route last
  AwaitsSo (Some (came.To Nothing)) last from then left = left ≡ 0
  AwaitsSo (Some (came.End end)) last from then left = Unit {0}

  -- it made its step where it goes on, and else made it or did nothing
  abbrev pub MakesRound : Option Came → (here next : ConnAt S) → Type 0
  MakesRound None here next = GoesRound w t exact route here next
  MakesRound (Some come) here next = (next ≡ here) ⊎ GoesRound w t exact route here next

  -- what all rounds found
  abbrev pub AwaitsAt : Came → (first last : ConnAt S) → (from then : Looks)
      → (old new : SourceView) → Type 0
  AwaitsAt (came.To awaits) first last from then old new =
      IsAwaited w t exact route awaits first last from then old new
  AwaitsAt (came.End end) first last from then old new = Unit {0}

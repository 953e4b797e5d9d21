-- What a leg does in one turn (this project's own): one call of its door or its backend, with what
-- came of it
use Rattle.std.specs.Prelude.{◌≡◌, ℕ, ◌+◌, Bool, true, false, Option}
use Rattle.z_types.specs.declared.ask.Ask.{Ask}
use Rattle.z_types.specs.declared.key.SetKey.{SetKey}
use Rattle.z_types.specs.declared.sitting.Sitting as sitting
use Rattle.z_types.specs.declared.world.World as world
use Rattle.gw_outside.specs.Counts.{Counts, BackendCounts}
use Rattle.gw_outside.specs.Happened.{Happened, AreSame, AreLess}
use Rattle.gw_outside.specs.Sessions.{OpenCounts, OpenHappens, LookCounts, open_counted, start_counted, heard_counted}
use Rattle.gw_outside.specs.declared.backends.Opening.{Opening}
use Rattle.gw_outside.specs.declared.backends.Began.{Began}
use Rattle.gw_outside.specs.declared.backends.Heard.{Heard}
use Rattle.gw_outside.specs.declared.backends.Heard.TheVariants as look
use Rattle.pool_sets.specs.Counts.{DoorCounts, is_full, is_dial, is_booked, after_take, after_redial}
use Rattle.pool_sets.specs.declared.doors.Taken.{Taken}
use Rattle.leg.specs.declared.accounts.Rises.{Rises}
use Rattle.leg.specs.Accounts.{no_rises, rises_by}

-- a session taken, opened, asked or looked at, put back, given up, or dialled again; no call for
-- want of memory; or none since the leg is done. An ask and a look go with the session after them
pub data Deed (S : Type 0) : Type 0 where
  took : Taken S → Deed S
  opened : Opening S → Deed S
  began : Ask → Began → S → Deed S
  heard : Heard → S → Deed S
  put_back : Deed S
  gave_up : Deed S
  redialled : ℕ → Deed S
  no_memory : Deed S
  nothing : Deed S

-- how many looks have then heard nothing of the ask
abbrev pub looks_then : ℕ → Heard → ℕ
looks_then looks look.NotYet = looks + 1
looks_then looks reply = 0

module _ {S : Type 0} where
  -- what the account of a leg that wants a set counts of a deed
  abbrev pub rises_of : Option SetKey → Deed S → Rises
  rises_of want (took taken) =
      record no_rises
      { fulls = is_full taken; opens = is_dial taken; booked = is_booked want taken }
  rises_of want (opened answer) = rises_by (open_counted answer)
  rises_of want (began ask answer session) = rises_by (start_counted ask answer)
  rises_of want (heard reply session) = rises_by (heard_counted reply)
  rises_of want (redialled member) = record no_rises { opens = true }
  rises_of want deed = no_rises

  -- how many looks have heard nothing of the ask, and whether this one did
  abbrev pub looks_after : ℕ → Deed S → ℕ
  looks_after looks (heard reply session) = looks_then looks reply
  looks_after looks deed = 0

  abbrev pub waits : Deed S → Bool
  waits (heard reply session) = (heard_counted reply).wait
  waits deed = false

  -- the counts of the door after it
  abbrev pub door_counts : Option SetKey → Deed S → DoorCounts → DoorCounts
  door_counts want (took taken) old = after_take want taken old
  door_counts want (redialled member) old = after_redial old
  door_counts want deed old = old

-- a backend, as a turn sees it
pub record BackendView : Type 0 where
  pub counts : Counts
  pub happened : Happened

module _ {W S : Type 0} (w : world.Ghosts W) (t : sitting.Ghosts S W) (exact : Bool) where
  -- the counts of the backend move so
  abbrev pub CountsMove : Deed S → Counts → Counts → Type 0
  CountsMove (opened made) old new = OpenCounts exact made old new
  CountsMove (began ask answer session) old new =
      BackendCounts exact (Unit {0}) (start_counted ask answer) old new
  CountsMove (heard reply session) old new =
      LookCounts exact (w.told (t.address session)) reply old new
  CountsMove deed old new = new ≡ old

  -- and what is made to happen to its links
  abbrev pub HappensThen : Deed S → Happened → Happened → Type 0
  HappensThen (opened made) old new = OpenHappens made old new
  HappensThen (began ask answer session) old new = AreLess old new
  HappensThen (heard reply session) old new = AreSame old new
  HappensThen deed old new = new ≡ old

  -- no other call of the backend is made
  pub record BackendMoves (deed : Deed S) (old new : BackendView) : Type 0 where
    pub counts : CountsMove deed old.counts new.counts
    pub happened : HappensThen deed old.happened new.happened

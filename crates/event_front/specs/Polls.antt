-- A poll (this project's own): how many steps it makes and how many octets it reads, and why it
-- answers that the connection goes on
use Rattle.std.specs.Prelude.{◌≡◌, ◌⊎◌, ℕ, ◌+◌, ◌≤◌, Bool, List, length}
use Rattle.z_types.specs.Chains.{HasStepped}
use Rattle.z_types.specs.declared.sitting.Sitting as sitting
use Rattle.z_types.specs.declared.world.World as world
use Rattle.route_config.specs.declared.route.Route.{Route}
use Rattle.gw_outside.specs.Sinks.{appended}
use Rattle.conn_served.specs.Serving.{SourceView}
use Rattle.conn_served.specs.front_conn.declared.stepped.Stepped.{Stepped}
use Rattle.conn_served.specs.front_conn.declared.stepped.Stepped.TheVariants.{Idle, Memory, NotYet, Went}
use Rattle.conn_served.specs.front_conn.steps.Drives.{ConnAt, StepsTo}
use Rattle.conn_served.specs.front_conn.steps.Feeding.{with_end, with_piece, without_out}
use Rattle.conn_served.specs.front_conn.steps.States.{ConnectionState}
use Rattle.event_front.specs.Edges.{AreInVain, Looks}
use Rattle.event_front.specs.declared.awaits.Awaits.{Awaits}
use Rattle.event_front.specs.declared.awaits.Awaits.TheVariants.{Client, Nothing, Target}

-- how many steps a poll makes at most, and how many octets it reads
abbrev pub most_steps : ℕ
most_steps = 1000

abbrev pub most_read : ℕ
most_read = 65536

-- of so many octets that may be read some were given, and so many are left
pub record Reads (most left : ℕ) (old new : SourceView) : Type 0 where
  pub octets : List ℕ
  pub given : new.given ≡ appended old.given octets
  pub spent : length octets + left ≡ most

-- no more were given than a poll reads
abbrev pub ReadsFew : (old new : SourceView) → Type 0
ReadsFew old new = (left : ℕ) × Reads most_read left old new

-- ---- a step, and what is read behind it

module _ {S : Type 0} where
  -- only behind a step that found nothing to do a piece may come, or the end of the input
  abbrev pub IsFed : Stepped → (old new : ConnectionState S) → Type 0
  IsFed Idle old new =
      (new ≡ old) ⊎ ((piece : List ℕ) × (new ≡ with_piece old piece)) ⊎ (new ≡ with_end old)
  IsFed NotYet old new = new ≡ old
  IsFed Went old new = new ≡ old
  IsFed Memory old new = new ≡ old

  -- all that was to be written is written
  abbrev pub written_at : ConnAt S → ConnAt S
  written_at here = record { conn = without_out here.conn; outside = here.outside }

module _ {W S : Type 0} (w : world.Ghosts W) (t : sitting.Ghosts S W) (exact : Bool)
    (route : Route) where
  -- one step, and what is fed behind it
  pub record TakesStep (here next : ConnAt S) : Type 0 where
    pub answer : Stepped
    pub amid : ConnAt S
    pub step : StepsTo w t exact route here amid answer
    pub fed : IsFed answer amid.conn next.conn
    pub outside : next.outside ≡ amid.outside

  -- a round: what is out is written first, whole
  abbrev pub GoesRound : (here next : ConnAt S) → Type 0
  GoesRound here next = TakesStep (written_at here) next

  -- so many rounds, one behind another
  pub record MakesRounds (count : ℕ) (first last : ConnAt S) : Type 0 where
    pub earlier : List (ConnAt S)
    pub went : HasStepped GoesRound first earlier last
    pub many : length earlier ≡ count

  -- no more than a poll makes
  abbrev pub MakesFew : (first last : ConnAt S) → Type 0
  MakesFew first last = (count : ℕ) × MakesRounds count first last × (count ≤ most_steps)

  -- ---- why it goes on

  -- a target has not replied: so the last step says
  abbrev pub HasNotYet : (last : ConnAt S) → Type 0
  HasNotYet last = (mid : ConnAt S) × StepsTo w t exact route mid last NotYet

  -- What a poll awaits that answers Pending: the client, whose source had nothing yet or whose sink
  -- no room; a target; or nothing, where it has read as many octets as a poll reads, or made as many
  -- steps.
  abbrev pub IsAwaited : Awaits → (first last : ConnAt S) → (from then : Looks)
      → (old new : SourceView) → Type 0
  IsAwaited Client first last from then old new = AreInVain from then
  IsAwaited Target first last from then old new = HasNotYet last
  IsAwaited Nothing first last from then old new =
      Reads most_read 0 old new ⊎ MakesRounds most_steps first last

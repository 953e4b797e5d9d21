-- Where a leg stands (this project's own)
use Rattle.std.specs.Prelude.{ℕ, Bool, true, false, Option, None, Some}
use Rattle.pool_sets.specs.declared.doors.Seat.{Seat}
use Rattle.pool_sets.specs.declared.pooled.Parts.{Parts}
use Rattle.pool_sets.specs.Table.{Table}
use Rattle.pool_sets.specs.Sessions.{with_table}
use Rattle.leg.specs.declared.answers.LegAnswer.{LegAnswer}
use Rattle.leg.specs.declared.phases.Held.{Held}
use Rattle.leg.specs.declared.phases.Phase.{Phase}
use Rattle.leg.specs.declared.phases.Phase.TheVariants.{Begin, Dialling, Dialled, Ready, Searching, Presenting, Fetching, Scanning, Returning, Losing, Redialling, Spoiled, Done, Ended}

module _ {S : Type 0} where
  -- a session that a leg holds; whether it came from the pool and has not replied to the leg
  abbrev pub hold : Seat → Parts S → Bool → Held S
  hold seat parts given = record { seat = seat; parts = parts; given = given }

  -- the session went on
  abbrev pub with_session : S → Held S → Held S
  with_session session held =
      hold held.seat (record {
        session = session;
        table = held.parts.table;
        address = held.parts.address;
      }) held.given

  -- it went on and replied
  abbrev pub replied : S → Held S → Held S
  replied session held =
      hold held.seat
      (record { session = session; table = held.parts.table; address = held.parts.address }) false

  -- with other sets
  abbrev pub with_sets : Table → Held S → Held S
  with_sets table held = hold held.seat (with_table table held.parts) held.given

  -- the seat of the session that is out for the leg, where one is
  abbrev pub seat_of : Phase S → Option Seat
  seat_of Begin = None
  seat_of (Dialling seat member) = Some seat
  seat_of (Dialled held looks) = Some held.seat
  seat_of (Ready held items) = Some held.seat
  seat_of (Searching held items slot looks) = Some held.seat
  seat_of (Presenting held items slot hits) = Some held.seat
  seat_of (Fetching held items slot hits looks) = Some held.seat
  seat_of (Scanning held looks) = Some held.seat
  seat_of (Returning held answer) = Some held.seat
  seat_of (Losing seat answer) = Some seat
  seat_of (Redialling seat) = Some seat
  seat_of (Spoiled seat) = Some seat
  seat_of (Done answer) = None
  seat_of Ended = None

  -- the session that the leg works on, where it has one
  abbrev pub session_of : Phase S → Option S
  session_of (Dialled held looks) = Some held.parts.session
  session_of (Ready held items) = Some held.parts.session
  session_of (Searching held items slot looks) = Some held.parts.session
  session_of (Presenting held items slot hits) = Some held.parts.session
  session_of (Fetching held items slot hits looks) = Some held.parts.session
  session_of (Scanning held looks) = Some held.parts.session
  session_of (Returning held answer) = Some held.parts.session
  session_of phase = None

  -- whether the session came from the pool and has not replied
  abbrev pub is_given : Phase S → Bool
  is_given (Dialled held looks) = held.given
  is_given (Ready held items) = held.given
  is_given (Searching held items slot looks) = held.given
  is_given (Presenting held items slot hits) = held.given
  is_given (Fetching held items slot hits looks) = held.given
  is_given (Scanning held looks) = held.given
  is_given (Returning held answer) = held.given
  is_given phase = false

  -- how many looks have heard nothing of the ask
  abbrev pub looks_of : Phase S → ℕ
  looks_of (Dialled held looks) = looks
  looks_of (Searching held items slot looks) = looks
  looks_of (Fetching held items slot hits looks) = looks
  looks_of (Scanning held looks) = looks
  looks_of phase = 0

  abbrev pub is_done : Phase S → Bool
  is_done (Done answer) = true
  is_done phase = false

  -- the answer of a leg that is done
  abbrev pub answered : Phase S → Option LegAnswer
  answered (Done answer) = Some answer
  answered phase = None

  -- the leg is done
  abbrev pub IsDone : Phase S → Type 0
  IsDone (Done answer) = Unit {0}
  IsDone phase = ⊥

  -- a leg that was given up has no seat
  abbrev pub without_seat : Phase S → Option Seat → Phase S
  without_seat phase None = phase
  without_seat phase (Some seat) = Ended

  abbrev pub given_up : Phase S → Phase S
  given_up phase = without_seat phase (seat_of phase)

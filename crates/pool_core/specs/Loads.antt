-- For contracts alone: which sessions count for a member (this project's own)
use Rattle.std.specs.Prelude.{ℕ, Bool, true, not, ◌&&◌, List, Option, None, Some}
use Rattle.z_types.specs.declared.address.Address.{Address}
use Rattle.pool_sets.specs.Sessions.{Session, is_of_member}
use Rattle.pool_sets.specs.declared.doors.Seat.{Seat}
use Rattle.pool_sets.specs.Plain.{is_seat}

-- each session but that of the seat, where there is one
abbrev pub is_counted : {S : Type 0} → Option Seat → Session S → Bool
is_counted None o = true
is_counted (Some seat) o = not (is_seat seat o)

-- and counts for a member of the class
abbrev pub is_counted_for : {S : Type 0} → Option Seat → ℕ → List Address → ℕ → Session S → Bool
is_counted_for but class at member o = is_counted but o && is_of_member class at member o

-- The pool, as a list of its sessions (this project's own)
use Rattle.std.specs.Prelude.{◌<◌, ◌≤◌, ℕ, ◌+◌, ◌-◌, ◌^◌, Bool, true, not, ◌&&◌, ◌==◌, nat_lt, nat_le, if◌then◌else◌, List, [], ◌∷◌, ◌++◌, map, filter, find, slice_index_or, Option, None, Some, option_map, count_by}
use Rattle.std.specs.Option.{option_map_or}
use Rattle.z_types.specs.declared.key.SetKey.{SetKey}
use Rattle.z_types.specs.declared.address.Address.{Address}
use Rattle.z_types.specs.declared.address.Address.TheVariants.{Test}
use Rattle.z_types.specs.Logins.{inner}
use Rattle.pool_sets.specs.declared.pooled.Parts.{Parts}
use Rattle.pool_sets.specs.declared.sessions.Stand.{Stand}
use Rattle.pool_sets.specs.declared.sessions.Stand.TheVariants.{Idle, Out}
use Rattle.pool_sets.specs.declared.doors.Seat.{Seat}
use Rattle.pool_sets.specs.declared.doors.Taken.{Taken}
use Rattle.pool_sets.specs.declared.doors.Taken.TheVariants.{Reuse, Fresh, Dial, Full, Memory}
use Rattle.pool_sets.specs.Table.{Entry, after_find, after_expire}
use Rattle.pool_sets.specs.Sessions.{Session, Idler, with_table, with_stand, first_some, idle_in, idle_for, idle_with, is_out, stands_at, without_number, open_of, member_for}

-- the sessions, in the order of their numbers; the last number that was given, 0 before the first;
-- and the pool's own numbers
pub record Pool (S : Type 0) : Type 0 where
  pub sessions : List (Session S)
  pub given : ℕ
  pub max_sessions : ℕ
  pub sets_max : ℕ
  pub session_ttl : ℕ
  pub set_ttl : ℕ

-- the address at a place; one of no meaning where there is none
abbrev pub address_at : List Address → ℕ → Address
address_at at m = slice_index_or at m (Test 0)

module _ {S : Type 0} where
  -- the pool with these sessions
  abbrev pub with_sessions : List (Session S) → Pool S → Pool S
  with_sessions os p = record {
    sessions = os;
    given = p.given;
    max_sessions = p.max_sessions;
    sets_max = p.sets_max;
    session_ttl = p.session_ttl;
    set_ttl = p.set_ttl;
  }

  -- an idle session is dropped that was put back session_ttl seconds ago or more; where now is
  -- before that, no time has passed
  abbrev pub stays : ℕ → ℕ → Stand (Parts S) Address → Bool
  stays now ttl (Idle parts since) = nat_lt (now - since) ttl
  stays now ttl (Out address) = true

  -- an idle session's sets expire; those of a session that is out do not
  abbrev pub without_old_sets : ℕ → ℕ → Stand (Parts S) Address → Stand (Parts S) Address
  without_old_sets now ttl (Idle parts since) =
      Idle (with_table (after_expire now ttl parts.table) parts) since
  without_old_sets now ttl (Out address) = Out address

  abbrev pub stays_open : ℕ → ℕ → Session S → Bool
  stays_open now ttl o = stays now ttl o.stand

  abbrev pub with_fresh_sets : ℕ → ℕ → Session S → Session S
  with_fresh_sets now ttl o = with_stand (without_old_sets now ttl o.stand) o

  -- the sessions without those and without the sets that were unused for too long
  abbrev pub fresh_sessions : ℕ → ℕ → ℕ → List (Session S) → List (Session S)
  fresh_sessions now session_ttl set_ttl os =
      map (with_fresh_sets now set_ttl) (filter (stays_open now session_ttl) os)

  abbrev pub expire : ℕ → Pool S → Pool S
  expire now p = with_sessions (fresh_sessions now p.session_ttl p.set_ttl p.sessions) p

  -- an idle session goes out
  abbrev pub lend_of : Idler S → Pool S → Pool S
  lend_of i p = with_sessions (stands_at i.number (Out (inner i.parts.address)) p.sessions) p

  abbrev pub seat_of : ℕ → Idler S → Seat
  seat_of class i = record { class = class; number = i.number }

  -- an idle session that holds the key: its set counts as used now
  abbrev pub reuse_of : ℕ → SetKey → ℕ → Idler S → Entry → Taken S
  reuse_of class key now i e =
      Reuse (seat_of class i) (with_table (after_find key now i.parts.table) i.parts) e.slot e.hits

  -- an idle session
  abbrev pub fresh_of : ℕ → Idler S → Taken S
  fresh_of class i = Fresh (seat_of class i) i.parts

  -- a session of the class and login that is out for a member
  abbrev pub out_for : ℕ → ℕ → List Address → Option (List ℕ) → ℕ → Session S
  out_for number class at login m =
      record {
        number = number;
        class = class;
        login = login;
        member = m;
        stand = Out (address_at at m);
      }

  -- such a session is added, under the next number
  abbrev pub with_dial : ℕ → List Address → Option (List ℕ) → ℕ → Pool S → Pool S
  with_dial class at login m p = record {
    sessions = p.sessions ++ out_for (p.given + 1) class at login m ∷ [];
    given = p.given + 1;
    max_sessions = p.max_sessions;
    sets_max = p.sets_max;
    session_ttl = p.session_ttl;
    set_ttl = p.set_ttl;
  }

  abbrev pub dial_for : ℕ → List Address → Option (List ℕ) → ℕ → Pool S → Taken S × Pool S
  dial_for class at login m p =
      (Dial (record { class = class; number = p.given + 1 }) m, with_dial class at login m p)

  -- the last number is not given out
  abbrev pub has_number : Pool S → Bool
  has_number p = nat_lt p.given (2 ^ 64 - 1)

  -- the pool without an idle session
  abbrev pub without_idle : Pool S → Idler S → Pool S
  without_idle p i = with_sessions (without_number i.number p.sessions) p

  -- the pool with room for one more of the class: as it is where fewer are open than there may be;
  -- else without the idle one of the least number, whatever its login, where one is idle
  abbrev pub made_room : ℕ → List Address → Pool S → Option (Pool S)
  made_room class at p =
      if nat_lt (open_of class at p.sessions) p.max_sessions
      then Some p
      else option_map (without_idle p) (first_some (idle_in class at) p.sessions)

  -- a session is dialled where there is room and a number is left; else nothing is changed
  abbrev pub dial_in : ℕ → List Address → Option (List ℕ) → Pool S → Option (Pool S)
      → Taken S × Pool S
  dial_in class at login p None = (Full p.max_sessions, p)
  dial_in class at login p (Some q) =
      if has_number q then dial_for class at login (member_for class at q.sessions) q
      else (Memory, p)

  -- where none of the class and login is idle
  abbrev pub open_one : ℕ → List Address → Option (List ℕ) → Pool S → Taken S × Pool S
  open_one class at login p = dial_in class at login p (made_room class at p)

  -- the idle session, where there is one, else one that is dialled
  abbrev pub any_idle : ℕ → List Address → Option (List ℕ) → Pool S → Option (Idler S)
      → Taken S × Pool S
  any_idle class at login p (Some i) = (fresh_of class i, lend_of i p)
  any_idle class at login p None = open_one class at login p

  -- the idle session of the class and login of the least number, else one that is dialled
  abbrev pub take_any : ℕ → List Address → Option (List ℕ) → Pool S → Taken S × Pool S
  take_any class at login p =
      any_idle class at login p (first_some (idle_for class at login) p.sessions)

  -- the idle session that holds a set of the key, where there is one, else any
  abbrev pub one_idle : ℕ → List Address → Option (List ℕ) → SetKey → ℕ → Pool S
      → Option (Idler S × Entry) → Taken S × Pool S
  one_idle class at login key now p (Some h) = (reuse_of class key now h.0 h.1, lend_of h.0 p)
  one_idle class at login key now p None = take_any class at login p

  -- the idle session of the class and login of the least number that holds a set of the key, else
  -- any of theirs
  abbrev pub take_with : ℕ → List Address → Option (List ℕ) → SetKey → ℕ → Pool S
      → Taken S × Pool S
  take_with class at login key now p =
      one_idle class at login key now p (first_some (idle_with class at login key) p.sessions)

  abbrev pub choice : ℕ → List Address → Option (List ℕ) → Option SetKey → ℕ → Pool S
      → Taken S × Pool S
  choice class at login (Some key) now p = take_with class at login key now p
  choice class at login None now p = take_any class at login p

  -- what a pool gives, and the pool after it: it expires first
  abbrev pub take_of : ℕ → List Address → Option (List ℕ) → Option SetKey → ℕ → Pool S
      → Taken S × Pool S
  take_of class at login want now p = choice class at login want now (expire now p)

  -- the session of the seat is out
  abbrev pub is_seat : Seat → Session S → Bool
  is_seat seat o = (o.number == seat.number) && (o.class == seat.class) && is_out o.stand

  -- the sessions but that of the seat
  abbrev pub without_seat : Seat → List (Session S) → List (Session S)
  without_seat seat os = filter (λ o. not (is_seat seat o)) os

  -- the session of the seat is given up; where none of it is out, nothing is changed
  abbrev pub lost : Seat → Pool S → Pool S
  lost seat p = with_sessions (without_seat seat p.sessions) p

  -- the session of the seat is idle since now
  abbrev pub idle_again : Seat → Parts S → ℕ → Session S → Session S
  idle_again seat parts now o = if is_seat seat o then with_stand (Idle parts now) o else o

  -- the session is put back; one that may hold more sets than the pool allows is given up
  abbrev pub put : Seat → Parts S → ℕ → Pool S → Pool S
  put seat parts now p =
      if nat_le parts.table.most p.sets_max
      then with_sessions (map (idle_again seat parts now) p.sessions) p
      else lost seat p

  -- the member to dial in the place of the seat's session, which counts no longer; 0 where none is
  -- out
  abbrev pub redial_member : Seat → List Address → Pool S → ℕ
  redial_member seat at p =
      option_map_or (λ o. member_for seat.class at (without_seat seat p.sessions))
      (find (is_seat seat) p.sessions) 0

  -- the session of the seat is dialled anew for a member, under its own number and login
  abbrev pub redial_at_seat : Seat → List Address → ℕ → Session S → Session S
  redial_at_seat seat at m o = if is_seat seat o then out_for o.number o.class at o.login m else o

  abbrev pub redial : Seat → List Address → Pool S → Pool S
  redial seat at p =
      with_sessions (map (redial_at_seat seat at (redial_member seat at p)) p.sessions) p

-- ---- its sessions by their numbers

-- the numbers ascend, from above m to n at most
abbrev pub Ascends : {S : Type 0} → ℕ → ℕ → List (Session S) → Type 0
Ascends m n [] = m ≤ n
Ascends m n (o ∷ os) = (m < o.number) × Ascends o.number n os

-- how often a seat is out of a pool: once at most, where its numbers ascend
abbrev pub out_of : {S : Type 0} → Pool S → Seat → ℕ
out_of pool seat = count_by (is_seat seat) pool.sessions

-- Laws of the plain pool (this project's own)
use Rattle.std.specs.Prelude.{◌≡◌, ◌<◌, ◌≤◌, ◌-◌, ◌&&◌, ℕ, Bool, true, false, not, nat_le, List, is_some, IsTrue, Option, Some}
use Rattle.std.specs.List.{list_any, list_all}
use Rattle.z_types.specs.declared.key.SetKey.{SetKey}
use Rattle.z_types.specs.declared.address.Address.{Address}
use Rattle.z_types.specs.Logins.{same_login, inner, login_of}
use Rattle.pool_sets.specs.declared.pooled.Parts.{Parts}
use Rattle.pool_sets.specs.declared.doors.Seat.{Seat}
use Rattle.pool_sets.specs.declared.doors.Taken.{Taken}
use Rattle.pool_sets.specs.declared.doors.Taken.TheVariants.{Reuse, Fresh}
use Rattle.pool_sets.specs.Table.{set_of, after_expire}
use Rattle.pool_sets.specs.Sessions.{Session, is_among, idle_in, open_of}
use Rattle.pool_sets.specs.Plain.{Pool, expire, take_of, put, is_seat, Ascends, out_of}
use Rattle.pool_sets.specs.Counts.{is_full}

abbrev pub is_reuse : {S : Type 0} → Taken S → Bool
is_reuse (Reuse seat parts slot hits) = true
is_reuse answer = false

-- the session of a seat is out for a login
abbrev pub is_out_for : {S : Type 0} → Seat → Option (List ℕ) → Session S → Bool
is_out_for seat login o = is_seat seat o && same_login login o.login

-- where a session is put back that was out for a login, at an address of its class inside that
-- login, a take of that class and login while the session and its set of a key are fresh is a reuse
abbrev pub PutIsReused : Type 0 → Type 0
PutIsReused S =
    (p : Pool S) (seat : Seat) (parts : Parts S) (at : List Address) (login : Option (List ℕ))
    (key : SetKey) (since now : ℕ) →
    IsTrue (list_any (is_out_for seat login) p.sessions) → parts.table.most ≤ p.sets_max
    → IsTrue (is_among at (inner parts.address))
    → IsTrue (same_login login (login_of parts.address)) →
    now - since < p.session_ttl
    → IsTrue (is_some (set_of key (after_expire now p.set_ttl parts.table))) →
    IsTrue (is_reuse (take_of seat.class at login (Some key) now (put seat parts since p)).0)

-- what is given is of the login that was asked for: a session of another is never given
abbrev pub is_given_for : {S : Type 0} → Option (List ℕ) → Taken S → Bool
is_given_for login (Reuse seat parts slot hits) = same_login login (login_of parts.address)
is_given_for login (Fresh seat parts) = same_login login (login_of parts.address)
is_given_for login answer = true

abbrev pub GivesOwn : Type 0 → Type 0
GivesOwn S =
    (p : Pool S) (class now : ℕ) (at : List Address) (login : Option (List ℕ))
    (want : Option SetKey) →
    IsTrue (is_given_for login (take_of class at login want now p).0)

-- no session of the class is idle
abbrev pub is_none_idle : {S : Type 0} → ℕ → List Address → List (Session S) → Bool
is_none_idle class at os = list_all (λ o. not (is_some (idle_in class at o))) os

-- a pool that has expired is full for a class
abbrev pub is_full_for : {S : Type 0} → ℕ → List Address → Pool S → Bool
is_full_for class at p =
    is_none_idle class at p.sessions && nat_le p.max_sessions (open_of class at p.sessions)

-- it answers so exactly where none of the class is idle, of whatever login, and as many as there
-- may be are out
abbrev pub FullExactly : Type 0 → Type 0
FullExactly S =
    (p : Pool S) (class now : ℕ) (at : List Address) (login : Option (List ℕ))
    (want : Option SetKey) →
    is_full (take_of class at login want now p).0 ≡ is_full_for class at (expire now p)

-- a seat is out of a pool once at most, where its numbers ascend
abbrev pub OutOnce : Type 0 → Type 0
OutOnce S =
    (pool : Pool S) (seat : Seat) → Ascends 0 pool.given pool.sessions → out_of pool seat ≤ 1

-- For contracts alone: a pool of one thread (this project's own)
use Rattle.std.specs.Prelude.{◌≡◌, ℕ, ◌+◌, ◌<◌, ◌≤◌, ◌^◌, List, [], ◌∷◌, ◌++◌, length, All, Bool, true, false, is_some, Option, None, Some, option_map, position}
use Rattle.z_types.specs.declared.address.Address.{Address}
use Rattle.z_types.specs.declared.sitting.Sitting as sitting
use Rattle.pool_sets.specs.Sessions.{Session, first_some, idle_in, idle_for, idle_with, without_number}
use Rattle.pool_sets.specs.declared.pooled.Parts.{Parts}
use Rattle.pool_sets.specs.declared.sessions.Stand.{Stand}
use Rattle.pool_sets.specs.declared.sessions.Stand.TheVariants.{Idle, Out}
use Rattle.pool_sets.specs.declared.doors.Seat.{Seat}
use Rattle.pool_sets.specs.declared.doors.Taken.{Taken}
use Rattle.pool_sets.specs.declared.doors.Taken.TheVariants.{Fresh, Dial, Memory}
use Rattle.z_types.specs.declared.key.SetKey.{SetKey}
use Rattle.z_types.specs.Counts.{one_more}
use Rattle.pool_sets.specs.Counts.{DoorCounts}
use Rattle.z_types.specs.Pending.{resting}
use Rattle.route_config.specs.declared.route.PoolNumbers.{PoolNumbers}
use Rattle.pool_sets.specs.Plain.{Ascends, Pool, redial}

-- the pool and its counts
pub record PoolView (S : Type 0) : Type 0 where
  pub pool : Pool S
  pub fulls : ℕ
  pub opens : ℕ
  pub booked : ℕ

module _ {S : Type 0} where
  -- the pool of a route's numbers with these sessions, the last of the numbers given
  abbrev pub pool_of : PoolNumbers → ℕ → List (Session S) → Pool S
  pool_of n given os = record {
    sessions = os;
    given = given;
    max_sessions = n.max_sessions;
    sets_max = n.sets_max;
    session_ttl = n.session_ttl;
    set_ttl = n.set_ttl;
  }

  -- it begins without sessions, behind the last number that was given
  abbrev pub pool_after : PoolNumbers → ℕ → PoolView S
  pool_after n last = record { pool = pool_of n last []; fulls = 0; opens = 0; booked = 0 }

  -- 0 is the last before the first
  abbrev pub new_pool : PoolNumbers → PoolView S
  new_pool n = pool_after n 0

  -- what it counts as a door
  abbrev pub counts_of : PoolView S → DoorCounts
  counts_of v =
      record { most = v.pool.max_sessions; fulls = v.fulls; opens = v.opens; booked = v.booked }

  -- a session that is out
  abbrev pub out_session : ℕ → ℕ → Option (List ℕ) → ℕ → Address → Session S
  out_session number class login member address =
      record {
        number = number;
        class = class;
        login = login;
        member = member;
        stand = Out address;
      }

  -- another pool with the same counts
  abbrev pub with_pool : Pool S → PoolView S → PoolView S
  with_pool p v = record { pool = p; fulls = v.fulls; opens = v.opens; booked = v.booked }

  -- a session is added under the next number, out for the first member
  abbrev pub with_out : ℕ → Option (List ℕ) → Address → PoolView S → PoolView S
  with_out class login address v = record {
    pool = record {
      sessions = v.pool.sessions ++ out_session (v.pool.given + 1) class login 0 address ∷ [];
      given = v.pool.given + 1;
      max_sessions = v.pool.max_sessions;
      sets_max = v.pool.sets_max;
      session_ttl = v.pool.session_ttl;
      set_ttl = v.pool.set_ttl;
    };
    fulls = v.fulls;
    opens = one_more true v.opens;
    booked = v.booked;
  }

  -- each redial opens a session
  abbrev pub after_redial : Seat → List Address → PoolView S → PoolView S
  after_redial seat at v =
      record {
        pool = redial seat at v.pool;
        fulls = v.fulls;
        opens = one_more true v.opens;
        booked = v.booked;
      }

  -- the place of the first idle session of a class
  abbrev pub idle_place : ℕ → List Address → List (Session S) → Option ℕ
  idle_place class at os = position (λ o. is_some (idle_in class at o)) os

  -- the place of the first of them that is one of the login
  abbrev pub own_place : ℕ → List Address → Option (List ℕ) → List (Session S) → Option ℕ
  own_place class at login os = position (λ o. is_some (idle_for class at login o)) os

  -- the place of the first of those that holds a set of the key
  abbrev pub holder_place : ℕ → List Address → Option (List ℕ) → SetKey → List (Session S)
      → Option ℕ
  holder_place class at login key os =
      position (λ o. is_some (idle_with class at login key o)) os

  -- the number of the first idle session of a class
  abbrev pub idle_number : ℕ → List Address → List (Session S) → Option ℕ
  idle_number class at os = option_map (λ i. i.number) (first_some (idle_in class at) os)

  -- the sessions but that of a number, where one is named
  abbrev pub without_named : Option ℕ → List (Session S) → List (Session S)
  without_named None os = os
  without_named (Some number) os = without_number number os

  -- a session that is out for a member, for the login that it was dialled for
  abbrev pub at_member : ℕ → Address → Session S → Session S
  at_member member address o =
      record {
        number = o.number;
        class = o.class;
        login = o.login;
        member = member;
        stand = Out address;
      }

-- an idle session rests
abbrev pub StandRests : {W S : Type 0} → sitting.Ghosts S W → Stand (Parts S) Address → Type 0
StandRests t (Idle parts since) = t.pending parts.session ≡ resting
StandRests t (Out address) = Unit {0}

abbrev pub Rests : {W S : Type 0} → sitting.Ghosts S W → Session S → Type 0
Rests t o = StandRests t o.stand

-- what every pool keeps
pub record IsPool {W S : Type 0} (t : sitting.Ghosts S W) (os : List (Session S))
    (given opens : ℕ) : Type 0 where
  pub rests : All (Rests t) os
  pub ascends : Ascends 0 given os
  pub bound : length os ≤ opens
  pub few : length os < 2 ^ 32

-- the answer and the pool after it, or nothing is changed for want of memory
abbrev pub Gives : {S : Type 0} → Taken S × Pool S → Pool S → Taken S → Pool S → Type 0
Gives wanted old Memory new = new ≡ old
Gives wanted old answer new = (answer, new) ≡ wanted

-- a session that holds no set wanted, for who wanted one
abbrev pub is_new : {S : Type 0} → Taken S → Bool
is_new (Fresh seat p) = true
is_new (Dial seat member) = true
is_new answer = false

-- it is counted where a set was wanted
abbrev pub after_book : {S : Type 0} → Taken S → PoolView S → PoolView S
after_book answer v =
    record {
      pool = v.pool;
      fulls = v.fulls;
      opens = v.opens;
      booked = one_more (is_new answer) v.booked;
    }

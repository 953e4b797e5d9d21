-- The sessions of a pool (this project's own)
use Rattle.std.specs.Prelude.{ℕ, Bool, true, false, not, ◌&&◌, ◌==◌, if◌then◌else◌, List, [], ◌∷◌, map, length, count_by, filter, Option, None, Some, option_map}
use Rattle.std.specs.List.{list_any, range_with_len}
use Rattle.std.specs.Option.{option_or}
use Rattle.z_types.specs.declared.key.SetKey.{SetKey}
use Rattle.z_types.specs.declared.address.Address.{Address}
use Rattle.z_types.specs.Logins.{same_address, same_login, inner, login_of}
use Rattle.load_balance.specs.Least.{least_place}
use Rattle.pool_sets.specs.declared.pooled.Parts.{Parts}
use Rattle.pool_sets.specs.declared.sessions.Open.{Open}
use Rattle.pool_sets.specs.declared.sessions.Stand.{Stand}
use Rattle.pool_sets.specs.declared.sessions.Stand.TheVariants.{Idle, Out}
use Rattle.pool_sets.specs.Table.{Entry, Table, set_of}

-- an open session: its number, its class, its login, the member that it counts for, and where it
-- is; the address of one that is out is its target's alone
abbrev pub Session : Type 0 → Type 0
Session S = Open (Parts S) Address

-- one of these addresses
abbrev pub is_among : List Address → Address → Bool
is_among at address = list_any (λ a. same_address a address) at

-- what h gives of the first item of which it gives something
abbrev pub first_some : {X Y : Type 0} → (X → Option Y) → List X → Option Y
first_some h [] = None
first_some h (x ∷ xs) = option_or (h x) (first_some h xs)

-- an idle session: its number and its parts
pub record Idler (S : Type 0) : Type 0 where
  pub number : ℕ
  pub parts : Parts S

module _ {S : Type 0} where
  -- a session apart, with another table
  abbrev pub with_table : Table → Parts S → Parts S
  with_table table parts =
      record { session = parts.session; table = table; address = parts.address }

  -- a session that is elsewhere
  abbrev pub with_stand : Stand (Parts S) Address → Session S → Session S
  with_stand stand o =
      record {
        number = o.number;
        class = o.class;
        login = o.login;
        member = o.member;
        stand = stand;
      }

  -- the address that its parts say, or at which it was dialled, without a login
  abbrev pub stand_target : Stand (Parts S) Address → Address
  stand_target (Idle parts since) = inner parts.address
  stand_target (Out address) = inner address

  -- the session is one of the class: it was dialled for its number, at one of its addresses, by
  -- itself or inside a login
  abbrev pub in_class : ℕ → List Address → Session S → Bool
  in_class class at o = (o.class == class) && is_among at (stand_target o.stand)

  -- the login that the address of its parts is inside, or for which it was dialled
  abbrev pub stand_login : Option (List ℕ) → Stand (Parts S) Address → Option (List ℕ)
  stand_login login (Idle parts since) = login_of parts.address
  stand_login login (Out address) = login

  -- it is one of the login: it was dialled for it, and its address is inside it, or by itself where
  -- there is none
  abbrev pub is_for : Option (List ℕ) → Session S → Bool
  is_for login o = same_login login o.login && same_login login (stand_login o.login o.stand)

  abbrev pub idle_parts : Stand (Parts S) Address → Option (Parts S)
  idle_parts (Idle parts since) = Some parts
  idle_parts (Out address) = None

  abbrev pub idler : ℕ → Stand (Parts S) Address → Option (Idler S)
  idler number (Idle parts since) = Some (record { number = number; parts = parts })
  idler number (Out address) = None

  -- the session, where it is idle and of the class
  abbrev pub idle_in : ℕ → List Address → Session S → Option (Idler S)
  idle_in class at o = if in_class class at o then idler o.number o.stand else None

  -- the session, where it is idle and of the class and login
  abbrev pub idle_for : ℕ → List Address → Option (List ℕ) → Session S → Option (Idler S)
  idle_for class at login o = if is_for login o then idle_in class at o else None

  -- an idle session, and its set of the key, where it holds that
  abbrev pub with_set : SetKey → Option (Idler S) → Option (Idler S × Entry)
  with_set key None = None
  with_set key (Some i) = option_map (λ e. (i, e)) (set_of key i.parts.table)

  -- the session, where it is idle, of the class and login, and holds the key, with its set
  abbrev pub idle_with : ℕ → List Address → Option (List ℕ) → SetKey → Session S
      → Option (Idler S × Entry)
  idle_with class at login key o = with_set key (idle_for class at login o)

  -- whether the session is out
  abbrev pub is_out : Stand (Parts S) Address → Bool
  is_out (Idle parts since) = false
  is_out (Out address) = true

  -- the session of the number is elsewhere
  abbrev pub stands_at : ℕ → Stand (Parts S) Address → List (Session S) → List (Session S)
  stands_at number stand os = map (λ o. if o.number == number then with_stand stand o else o) os

  -- the sessions but that of the number
  abbrev pub without_number : ℕ → List (Session S) → List (Session S)
  without_number number os = filter (λ o. not (o.number == number)) os

  -- the session is one of the class and counts for the member
  abbrev pub is_of_member : ℕ → List Address → ℕ → Session S → Bool
  is_of_member class at m o = in_class class at o && (o.member == m)

  -- how many open sessions of the class count for each member, in the order of the members
  abbrev pub loads : ℕ → List Address → List (Session S) → List ℕ
  loads class at os =
      map (λ m. count_by (is_of_member class at m) os) (range_with_len 0 (length at))

  -- how many sessions of the class are open, whatever their logins
  abbrev pub open_of : ℕ → List Address → List (Session S) → ℕ
  open_of class at os = count_by (in_class class at) os

  -- the member to dial: that of fewest open sessions, the first in a tie
  abbrev pub member_for : ℕ → List Address → List (Session S) → ℕ
  member_for class at os = least_place (loads class at os)

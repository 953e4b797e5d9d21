-- For contracts alone: what a door answers, told or not (this project's own)
use Rattle.std.specs.Prelude.{◌≡◌, ℕ, ◌<◌, ◌≤◌, List, length, Contains, Option, None, Some, IfSome}
use Rattle.z_types.specs.declared.key.SetKey.{SetKey}
use Rattle.z_types.specs.declared.address.Address.{Address}
use Rattle.z_types.specs.Logins.{all_inside}
use Rattle.z_types.specs.Pending.{resting}
use Rattle.z_types.specs.declared.world.World as world
use Rattle.z_types.specs.declared.sitting.Sitting as sitting
use Rattle.pool_sets.specs.declared.pooled.Parts.{Parts}
use Rattle.pool_sets.specs.declared.doors.Seat.{Seat}
use Rattle.pool_sets.specs.declared.doors.Taken.{Taken}
use Rattle.pool_sets.specs.declared.doors.Taken.TheVariants.{Reuse, Fresh, Dial, Full, Memory}
use Rattle.pool_sets.specs.Table.{Entry, Table, set_of}
use Rattle.pool_sets.specs.Kept.{TableKept}
use Rattle.pool_sets.specs.Plain.{Pool, expire, take_of, redial_member, redial}

-- the table has a set of the key under the slot, with these hits
abbrev pub HasSet : List Entry → ℕ → SetKey → ℕ → Type 0
HasSet entries slot key hits =
    (used : ℕ) × Contains entries (record { slot = slot; key = key; hits = hits; used = used })

abbrev pub HasWanted : Option SetKey → List Entry → ℕ → ℕ → Type 0
HasWanted None entries slot hits = ⊥
HasWanted (Some key) entries slot hits = HasSet entries slot key hits

-- the table has no set of the key, where one is wanted
abbrev pub LacksWanted : Option SetKey → Table → Type 0
LacksWanted None table = Unit {0}
LacksWanted (Some key) table = set_of key table ≡ None

-- a session that a door gives: its seat is of the class that was asked for; it rests, at one of the
-- addresses that were named, inside the login that was, or by itself where none was, with its sets
pub record IsReady {W S : Type 0} (w : world.Ghosts W) (t : sitting.Ghosts S W) (class : ℕ)
    (at : List Address) (login : Option (List ℕ)) (seat : Seat) (p : Parts S) : Type 0 where
  pub of_class : seat.class ≡ class
  pub rests : t.pending p.session ≡ resting
  pub kept : TableKept w t p
  pub among : Contains (all_inside login at) p.address

-- what every door gives, told or not
abbrev pub TakenFits : {W S : Type 0} → world.Ghosts W → sitting.Ghosts S W → ℕ → List Address
    → Option (List ℕ) → Option SetKey → ℕ → Taken S → Type 0
TakenFits w t class at login want most (Reuse seat p slot hits) =
    IsReady w t class at login seat p × HasWanted want p.table.entries slot hits
TakenFits w t class at login want most (Fresh seat p) =
    IsReady w t class at login seat p × LacksWanted want p.table
TakenFits w t class at login want most (Dial seat member) =
    (seat.class ≡ class) × (member < length at)
TakenFits w t class at login want most (Full open_) = open_ ≡ most
TakenFits w t class at login want most Memory = Unit {0}

module _ {S : Type 0} where
  -- the answer and the pool after it are the plain pool's; after want of memory it has expired
  abbrev TakesFrom : Pool S → Pool S → ℕ → List Address → Option (List ℕ) → Option SetKey → ℕ
      → Taken S → Type 0
  TakesFrom p q class at login want now Memory = q ≡ expire now p
  TakesFrom p q class at login want now answer = (answer, q) ≡ take_of class at login want now p

  -- a pool that tells its sessions takes as the plain pool does
  abbrev pub Takes : Option (Pool S) → Option (Pool S) → ℕ → List Address → Option (List ℕ)
      → Option SetKey → ℕ → Taken S → Type 0
  Takes None new class at login want now answer = new ≡ None
  Takes (Some p) None class at login want now answer = ⊥
  Takes (Some p) (Some q) class at login want now answer =
      TakesFrom p q class at login want now answer

  -- and names the member to dial again as it does
  abbrev pub Redials : Option (Pool S) → Option (Pool S) → Seat → List Address → ℕ → Type 0
  Redials None new seat at m = new ≡ None
  Redials (Some p) new seat at m = (m ≡ redial_member seat at p) × (new ≡ Some (redial seat at p))

  -- no more sessions are open than were dialled
  abbrev pub IsBounded : Option (Pool S) → ℕ → Type 0
  IsBounded p opens = IfSome p (λ q. length q.sessions ≤ opens)

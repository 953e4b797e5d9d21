-- For contracts alone: the sessions of a pool, and how long sessions and sets stay unused
-- (this project's own)
use Rattle.std.specs.Prelude.{◌≡◌, ◌⊎◌, ℕ, ◌<◌, ◌^◌, Bool, true, false, List, [], slice_set, slice_index_or, length, is_some, All, Option}
use Rattle.z_types.specs.declared.key.SetKey.{SetKey}
use Rattle.z_types.specs.declared.address.Address.{Address}
use Rattle.pool_sets.specs.Sessions.{Session, idle_with}
use Rattle.pool_roster.specs.declared.berth.Berth.{Berth}
use Rattle.pool_roster.specs.declared.berth.Expiries.{Expiries}
use Rattle.pool_roster.specs.Told.{settled}

-- the sessions that are told, and how long a session and a set may be unused
pub record RosterView (S : Type 0) : Type 0 where
  pub sessions : List (Session S)
  pub session_ttl : ℕ
  pub set_ttl : ℕ

module _ {S : Type 0} where
  -- other sessions, told for as long
  abbrev pub with_told : List (Session S) → RosterView S → RosterView S
  with_told os r = record { sessions = os; session_ttl = r.session_ttl; set_ttl = r.set_ttl }

  -- none yet
  abbrev pub roster_of : ℕ → ℕ → RosterView S
  roster_of session_ttl set_ttl =
      record { sessions = []; session_ttl = session_ttl; set_ttl = set_ttl }

  -- one session is changed, at its place
  abbrev pub Changes : (Session S → Session S) → ℕ → RosterView S → RosterView S → Type 0
  Changes f place old new =
      (d : Session S)
      → new ≡ with_told (slice_set old.sessions place (f (slice_index_or old.sessions place d))) old

  -- the numbers rise
  abbrev pub Rises : List (Berth (Session S)) → Type 0
  Rises bs =
      (i j : ℕ) (d : Berth (Session S)) → i < j → j < length bs →
      (slice_index_or bs i d).session.number < (slice_index_or bs j d).session.number

  -- the place of the session of a number
  pub record IsPlace (number : ℕ) (bs : List (Berth (Session S))) (place : ℕ) : Type 0 where
    pub within : place < length bs
    pub number_there : (d : Berth (Session S)) → (slice_index_or bs place d).session.number ≡ number

  -- the place of the session of a number, among those that are told
  pub record IsOne (number : ℕ) (os : List (Session S)) (place : ℕ) : Type 0 where
    pub within : place < length os
    pub number_there : (d : Session S) → (slice_index_or os place d).number ≡ number

  -- the numbers of sessions rise, and are below 2^64
  pub record RiseIn (os : List (Session S)) : Type 0 where
    pub order : (i j : ℕ) (d : Session S) → i < j → j < length os
        → (slice_index_or os i d).number < (slice_index_or os j d).number
    pub small : All (λ o. o.number < 2 ^ 64) os

  -- whether a session is idle and of the class and login, and holds a set of the key
  abbrev pub is_holder : ℕ → List Address → Option (List ℕ) → SetKey → Session S → Bool
  is_holder class at login key o = is_some (idle_with class at login key o)

  -- the session of a number, at its place, passes a test
  pub record IsOneOf (q : Session S → Bool) (number : ℕ) (os : List (Session S)) (place : ℕ)
      : Type 0 where
    pub within : place < length os
    pub number_there : (d : Session S) → (slice_index_or os place d).number ≡ number
    pub passes : (d : Session S) → q (slice_index_or os place d) ≡ true

  -- the session of a number does not pass
  abbrev pub IsNoneOf : (Session S → Bool) → ℕ → List (Session S) → Type 0
  IsNoneOf q number os = All (λ o. o.number ≡ number → q o ≡ false) os

  -- a session that was left as it was, or as it is told
  abbrev pub MaySettle : Expiries → ℕ → Berth (Session S) → Berth (Session S) → Type 0
  MaySettle x ttl b c = (c ≡ b) ⊎ (c ≡ settled x ttl x.count b)

-- How many open sessions of a class count for its members (this project's own)
use Rattle.std.specs.Prelude.{◌≡◌, ◌⊎◌, ℕ, ◌++◌, ◌∷◌, [], ◌+◌, ◌-◌, ◌<◌, ◌^◌, min, nat_lt, Bool, true, false, if◌then◌else◌, List, length, slice_set, slice_index_or, count_by, Option}
use Rattle.z_types.specs.declared.address.Address.{Address}
use Rattle.pool_sets.specs.declared.doors.Seat.{Seat}
use Rattle.pool_sets.specs.Sessions.{Session, in_class, is_of_member}
use Rattle.pool_core.specs.Loads.{is_counted_for}
use Rattle.pool_index.specs.declared.tally.Tally.{Tally}

-- a count of 32 bits, once one has come or gone
abbrev pub stepped : Bool → ℕ → ℕ
stepped true count = min (count + 1) (2 ^ 32 - 1)
stepped false count = count - 1

-- the counts of the first 16 members, once one of a member has come or gone
abbrev pub loads_stepped : Bool → ℕ → List ℕ → List ℕ
loads_stepped comes m loads =
    if nat_lt m 16 then slice_set loads m (stepped comes (slice_index_or loads m 0)) else loads

-- the tally, once one of a member has come or gone
abbrev pub tallied : Bool → ℕ → Tally → Tally
tallied comes m t =
    record {
      class = t.class;
      at = t.at;
      all = stepped comes t.all;
      loads = loads_stepped comes m t.loads;
    }

-- it is the tally of the class at these addresses
pub record IsTallyFor (class : ℕ) (at : List Address) (t : Tally) : Type 0 where
  pub of_class : t.class ≡ class
  pub of_addresses : t.at ≡ at

-- which stands at a place
pub record IsTallyPlace (class : ℕ) (at : List Address) (ts : List Tally) (place : ℕ)
    : Type 0 where
  pub within : place < length ts
  pub there : (d : Tally) → IsTallyFor class at (slice_index_or ts place d)

-- a tally was put at the end, or none
abbrev pub IsAdded : Tally → List Tally → List Tally → Type 0
IsAdded t old new = (new ≡ old ++ t ∷ []) ⊎ (new ≡ old)

module _ {S : Type 0} where
  -- the tally, once a session has come or gone
  abbrev pub changed : Bool → Session S → Tally → Tally
  changed comes o t = if in_class t.class t.at o then tallied comes o.member t else t

  -- a tally has the counts, where c tells how many sessions pass a test
  pub record Counts (c : (Session S → Bool) → ℕ) (t : Tally) : Type 0 where
    pub long : length t.loads ≡ 16
    pub all_right : t.all ≡ c (in_class t.class t.at)
    pub loads_right : (m : ℕ) → m < 16
        → slice_index_or t.loads m 0 ≡ c (is_of_member t.class t.at m)

  -- a tally of these sessions
  abbrev pub IsTally : List (Session S) → Tally → Type 0
  IsTally os t = Counts (λ p. count_by p os) t

  -- how many sessions count for each of 16 members, but for that of a seat
  pub record Loads (but : Option Seat) (t : Tally) (os : List (Session S)) (loads : List ℕ)
      : Type 0 where
    pub long : length loads ≡ 16
    pub each : (m : ℕ) → m < 16
        → slice_index_or loads m 0 ≡ count_by (is_counted_for but t.class t.at m) os

-- The numbers that legs count, and what counts them outside (this project's own)
use Rattle.std.specs.Prelude.{◌≡◌, ℕ, ◌+◌, Bool, true, false}
use Rattle.z_types.specs.declared.marks.Mark.{Mark}
use Rattle.z_types.specs.declared.marks.Mark.TheVariants as mark
use Rattle.route_config.specs.declared.route.PoolNumbers.{PoolNumbers}
use Rattle.gw_outside.specs.Counts.{Counts}
use Rattle.pool_sets.specs.Counts.{DoorCounts}
use Rattle.front_conn.specs.leg.declared.accounts.Account.{Account}

-- ---- what is summed by class

-- links made, searches sent, sets that were gone, calls that failed
pub data Number : Type 0 where
  dials : Number
  searches : Number
  gones : Number
  faults : Number

-- that a leg counted
abbrev pub in_account : Number → Account → ℕ
in_account dials account = account.dials
in_account searches account = account.searches
in_account gones account = account.gones
in_account faults account = account.faults

-- that a backend counted
abbrev pub in_counts : Number → Counts → ℕ
in_counts dials counts = counts.dials
in_counts searches counts = counts.searches
in_counts gones counts = counts.gones
in_counts faults counts = counts.faults

-- a backend counts it as legs do: of faults it may count more, unless it is exact
abbrev pub IsTold : (exact : Bool) → Number → Type 0
IsTold exact faults = exact ≡ true
IsTold exact number = Unit {0}

-- ---- what a mark comes of

-- the kinds of marks other than Plain
pub data Caused : Type 0 where
  link : Caused
  silent : Caused
  gone : Caused
  full : Caused

-- a mark is of this kind
abbrev pub is_of : Caused → Mark → Bool
is_of link mark.Link = true
is_of silent (mark.Silent looks) = true
is_of gone mark.Gone = true
is_of full (mark.Full sessions) = true
is_of kind other = false

-- how often its cause was met at least: a fault, as many looks as there is patience for, a Gone
-- more than are repeated, a full door
abbrev pub weight : PoolNumbers → Caused → ℕ
weight pool link = 1
weight pool silent = pool.patience
weight pool gone = pool.repeats + 1
weight pool full = 1

-- how often a leg met it: faults that may not be tried again, looks on one ask, Gones, full doors
abbrev pub met_by : Caused → Account → ℕ
met_by link account = account.spent
met_by silent account = account.looks
met_by gone account = account.gones
met_by full account = account.fulls

-- what counts it outside: the backend's faults, waits and gones, and the door's fulls
abbrev pub met_outside : Caused → DoorCounts → Counts → ℕ
met_outside link door backend = backend.faults
met_outside silent door backend = backend.waits
met_outside gone door backend = backend.gones
met_outside full door backend = door.fulls

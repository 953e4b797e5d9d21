-- The next call of an object in memory, and what it answers where it is to fail
-- (this project's own)
use Rattle.std.specs.Prelude.{◌≡◌, ℕ, Bool, true, false, List, Option, None, Some, length, min}
use Rattle.gw_outside.specs.declared.files.FileGot.{FileGot}
use Rattle.gw_outside.specs.declared.files.FileGot.TheVariants as got
use Rattle.gw_outside.specs.declared.sources.Got.{Got}
use Rattle.gw_outside.specs.declared.sources.Got.TheVariants as give
use Rattle.gw_outside.specs.declared.sinks.Took.{Took}
use Rattle.gw_outside.specs.declared.sinks.Took.TheVariants as took
use Rattle.planned_calls.specs.declared.calls.Calls.{Calls}
use Rattle.planned_calls.specs.Planned.{fails_next}

-- ---- reads

-- a read that gives octets gives all that are left, as far as there is room
abbrev pub FillsWhole : List ℕ → ℕ → Got → Type 0
FillsWhole left room (give.Bytes count) = count ≡ min (length left) room
FillsWhole left room give.End = Unit {0}
FillsWhole left room give.Failed = Unit {0}

-- ---- writes

-- a write takes all that is wanted; it fails where it is to fail, and for want of memory
abbrev pub IsPlannedWrite : Bool → ℕ → Took → Type 0
IsPlannedWrite false wanted (took.Bytes count) = count ≡ wanted
IsPlannedWrite true wanted (took.Bytes count) = ⊥
IsPlannedWrite fails wanted took.Failed = Unit {0}

abbrev pub is_failed_write : Took → Bool
is_failed_write (took.Bytes count) = false
is_failed_write took.Failed = true

-- ---- reads of files

-- the read of a file is to fail, and so is that of one that there is not
abbrev pub read_fails : Calls → Option (List ℕ) → Bool
read_fails calls None = true
read_fails calls (Some octets) = fails_next calls

-- a read fails where it is to fail and nowhere else; of want of memory nothing is said
abbrev pub IsPlannedRead : Bool → FileGot → Type 0
IsPlannedRead fails (got.Whole text) = fails ≡ false
IsPlannedRead fails got.Longer = fails ≡ false
IsPlannedRead fails got.Failed = fails ≡ true
IsPlannedRead fails got.Memory = Unit {0}

abbrev pub is_failed_read : FileGot → Bool
is_failed_read (got.Whole text) = false
is_failed_read got.Longer = false
is_failed_read got.Failed = true
is_failed_read got.Memory = false

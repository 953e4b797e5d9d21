-- For contracts alone: the numbers of refusals of database names (this project's own); want of
-- memory has none of its own
use Rattle.std.specs.Prelude.{◌≡◌, ℕ, Result, Err}
use Rattle.virt_db.specs.declared.fault.DbFault.{DbFault}
use Rattle.virt_db.specs.declared.fault.DbFault.TheVariants.{Unknown, TooMany, Memory}

-- the number of a refusal
abbrev pub fault_number : DbFault → ℕ
fault_number (Unknown name) = 1
fault_number (TooMany count) = 2
fault_number Memory = 0

-- a result, or want of memory, which has no cause
abbrev pub IsOrMemory : {A : Type 0} → Result A DbFault → Result A DbFault → Type 0
IsOrMemory wanted (Err Memory) = Unit {0}
IsOrMemory wanted answer = answer ≡ wanted

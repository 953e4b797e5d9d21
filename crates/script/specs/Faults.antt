-- For contracts alone: the numbers of refusals (this project's own); want of memory has none of its
-- own.
use Rattle.std.specs.Prelude.{ℕ}
use Rattle.script.specs.declared.faults.ScriptFault.{ScriptFault}
use Rattle.script.specs.declared.faults.ScriptFault.TheVariants.{Line, TooMany, Memory}

-- the number of a refusal
abbrev pub fault_number : ScriptFault → ℕ
fault_number (Line number) = 1
fault_number (TooMany number) = 2
fault_number Memory = 0

-- For contracts alone: the numbers of refusals of a query (this project's own); want of memory has
-- none of its own
use Rattle.std.specs.Prelude.{ℕ}
use Rattle.z_sets.specs.declared.fault.ExpandFault.{ExpandFault}
use Rattle.z_sets.specs.declared.fault.ExpandFault.TheVariants.{UnknownSet, OtherLegs, TooLarge, TooDeep, TooCostly, Memory}

-- the number of a refusal
abbrev pub fault_number : ExpandFault → ℕ
fault_number (UnknownSet name) = 1
fault_number (OtherLegs name) = 2
fault_number (TooLarge nodes) = 3
fault_number (TooDeep levels) = 4
fault_number (TooCostly cost) = 5
fault_number Memory = 0

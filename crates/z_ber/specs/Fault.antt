-- For contracts alone: the numbers of faults (this project's own).
use Rattle.std.specs.Prelude.{ℕ}
use Rattle.z_ber.specs.declared.fault.BerFault.{BerFault}
use Rattle.z_ber.specs.declared.fault.BerFault.TheVariants.{Short, BadTag, BadLength, TooLarge, TooDeep}

-- each fault's place in their order
abbrev pub fault_number : BerFault → ℕ
fault_number Short = 1
fault_number BadTag = 2
fault_number BadLength = 3
fault_number (TooLarge n) = 4
fault_number TooDeep = 5

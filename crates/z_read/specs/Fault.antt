-- For contracts alone: why a unit is not read (this project's own).
use Rattle.std.specs.Prelude.{ℕ, List, ◌++◌, codes}
use Rattle.std.specs.Fmt.{decimal}
use Rattle.unit_forms.specs.declared.refusal.Refusal.{Refusal}
use Rattle.unit_forms.specs.declared.refusal.Refusal.TheVariants as refusal
use Rattle.z_read.specs.declared.fault.ReadFault.{ReadFault}
use Rattle.z_read.specs.declared.fault.ReadFault.TheVariants.{Ber, UnknownUnit, Missing, BadValue, LeftOut, Memory}

-- the fault's place in their order
abbrev pub fault_number : ReadFault → ℕ
fault_number (Ber at) = 1
fault_number (UnknownUnit n) = 2
fault_number (Missing n) = 3
fault_number (BadValue n) = 4
fault_number (LeftOut n) = 5
fault_number Memory = 6

-- the fault that a refusal is
abbrev pub fault_of : Refusal → ReadFault
fault_of (refusal.UnknownUnit n) = UnknownUnit n
fault_of (refusal.Missing n) = Missing n
fault_of (refusal.BadValue n) = BadValue n
fault_of (refusal.LeftOut n) = LeftOut n

-- what is printed of a fault: its rule, with its place or tag
abbrev pub sentence : ReadFault → List ℕ
sentence (Ber at) = codes "the octets are no element at octet " ++ decimal at
sentence (UnknownUnit n) = codes "no unit has the tag " ++ decimal n
sentence (Missing n) = codes "the field " ++ decimal n ++ codes " is missing"
sentence (BadValue n) = codes "the field " ++ decimal n ++ codes " has a bad value"
sentence (LeftOut n) = codes "the string " ++ decimal n ++ codes " is in constructed form"
sentence Memory = codes "out of memory"

-- For contracts alone: values that contents octets are read as. The bounds are this project's own.
use Rattle.std.specs.Prelude.{ℕ, ℤ, ◌^◌, ◌<◌, List, FitsSigned, IsTrue}
use Rattle.std.specs.Int.{w64}
use Rattle.z_types.specs.Oid.{is_oid}

-- an INTEGER of at most 8 octets (X.690, 8.3)
abbrev pub IsInteger : ℤ → Type 0
IsInteger value = FitsSigned w64 value

-- a BIT STRING of at most 32 bits, the first of which is bit 0 of the number (X.690, 8.6)
abbrev pub IsBits : ℕ → Type 0
IsBits value = value < 2 ^ 32

-- an OBJECT IDENTIFIER of 2 to 32 numbers below 2^32 (X.690, 8.19)
abbrev pub IsOid : List ℕ → Type 0
IsOid arcs = IsTrue (is_oid arcs)

-- a number of an OBJECT IDENTIFIER, or of its first two as one
abbrev pub IsSubidentifier : ℕ → Type 0
IsSubidentifier number = number < 2 ^ 33

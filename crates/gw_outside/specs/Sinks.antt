-- What a sink receives (this project's own)
use Rattle.std.specs.Prelude.{◌≡◌, ℕ, ◌<◌, ◌≤◌, List, ◌++◌, Option, None, Some, length, take}
use Rattle.gw_outside.specs.declared.sinks.Took.{Took}
use Rattle.gw_outside.specs.declared.sinks.Took.TheVariants.{Bytes, Failed}

-- what was received, and these octets behind it, where it is told
abbrev pub appended : Option (List ℕ) → List ℕ → Option (List ℕ)
appended None bytes = None
appended (Some old) bytes = Some (old ++ bytes)

-- a front of the octets was received, and not all of them
pub record ReceivedPrefix (old new : Option (List ℕ)) (bytes : List ℕ) : Type 0 where
  pub count : ℕ
  pub within : count < length bytes
  pub received : new ≡ appended old (take count bytes)

-- the answer to a write: the first octets of the piece were received, or none
abbrev pub TookFits : Option (List ℕ) → Option (List ℕ) → List ℕ → Took → Type 0
TookFits old new piece (Bytes count) =
    (1 ≤ count) × (count ≤ length piece) × (new ≡ appended old (take count piece))
TookFits old new piece Failed = new ≡ old

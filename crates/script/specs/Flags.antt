-- For contracts alone: a flag for each client whose input has ended (this project's own)
use Rattle.std.specs.Prelude.{◌≡◌, ℕ, Bool, false, List, slice_get, unwrap_or}
use Rattle.script.specs.declared.event.Event.{Event}
use Rattle.script.specs.Events.{has_ended}

-- the flag of a client; none is set behind the last
abbrev pub flag_of : List Bool → ℕ → Bool
flag_of flags client = unwrap_or (slice_get flags client) false

-- no flag is set
abbrev pub AreClear : List Bool → Type 0
AreClear flags = (client : ℕ) → flag_of flags client ≡ false

-- a flag is set exactly where the events end the client's input
abbrev pub AreEnded : List Event → List Bool → Type 0
AreEnded events flags = (client : ℕ) → flag_of flags client ≡ has_ended events client

-- What a session with a target waits for (this project's own)
use Rattle.z_types.specs.declared.ask.Ask.{Ask}

-- it rests; it waits for the reply to its Init or to an ask; or it is broken, once a call on it
-- failed or had no memory
pub data Pending : Type 0 where
  resting : Pending
  opening : Pending
  asked : Ask → Pending
  broken : Pending

-- whether a reply is awaited
abbrev pub IsPending : Pending → Type 0
IsPending resting = ⊥
IsPending opening = Unit {0}
IsPending (asked ask) = Unit {0}
IsPending broken = ⊥

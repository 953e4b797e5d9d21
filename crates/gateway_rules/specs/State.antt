-- What the gateway keeps of a client (this project's own): nothing of its sessions with targets, or
-- of other clients
use Rattle.std.specs.Prelude.{ℕ, List, [], Bool, false, None}
use Rattle.z_sets.specs.Sets.{StoredSet}
use Rattle.access_rules.specs.declared.who.Who.TheVariants.{Anonymous}
use Rattle.gateway_rules.specs.declared.agreement.Agreement.{Agreement}

-- How far a client's units have come: the offset of the next one, whether an Init was accepted, and
-- how many were taken. The units alone decide it: no target's answer and no mark changes it.
pub record Progress : Type 0 where
  pub at : ℕ
  pub accepted : Bool
  pub units : ℕ

-- nothing was sent: the next unit is at offset 0, no Init was accepted, no unit was taken
abbrev pub at_the_start : Progress
at_the_start = record { at = 0; accepted = false; units = 0 }

-- What is kept of a client beside that: what its Init settled, whose it is among that; the searches
-- and records that it has spent; and its result sets
pub record ClientState : Type 0 where
  pub agreed : Agreement
  pub searches : ℕ
  pub records : ℕ
  pub sets : List StoredSet

-- no Init was accepted
abbrev pub no_agreement : Agreement
no_agreement = record {
  sizes = record { preferred = 0; exceptional = 0 };
  whose = Anonymous;
  login = None;
}

-- a client that has asked nothing
abbrev pub new_client : ClientState
new_client = record { agreed = no_agreement; searches = 0; records = 0; sets = [] }

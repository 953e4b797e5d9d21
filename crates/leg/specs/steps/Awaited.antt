-- For contracts alone: phases in which a leg opens or asks a session, and those in which it waits
-- for a reply (this project's own)
use Rattle.std.specs.Prelude.{◌<◌, Bool, true, false, length}
use Rattle.z_types.specs.declared.sitting.Sitting as sitting
use Rattle.z_types.specs.declared.world.World as world
use Rattle.leg.specs.declared.phases.Phase.{Phase}
use Rattle.leg.specs.declared.phases.Phase.TheVariants.{Dialling, Dialled, Ready, Searching, Presenting, Fetching, Scanning}
use Rattle.leg.specs.declared.tasks.Task.{Task}
use Rattle.leg.specs.Kept.{IsAmong, IsScanning}
use Rattle.leg.specs.Terms.{Terms}

-- a reply is awaited
abbrev pub is_waiting : {S : Type 0} → Phase S → Bool
is_waiting (Dialled held looks) = true
is_waiting (Searching held items slot looks) = true
is_waiting (Fetching held items slot hits looks) = true
is_waiting (Scanning held looks) = true
is_waiting phase = false

module _ {W S : Type 0} (w : world.Ghosts W) (t : sitting.Ghosts S W) (terms : Terms) where
  -- a member that is named is to be opened, or a session at one of the addresses to be asked
  abbrev pub IsAsking : Phase S → Type 0
  IsAsking (Dialling seat member) = member < length terms.at
  IsAsking (Ready held items) = IsAmong w t terms held
  IsAsking (Presenting held items slot hits) = IsAmong w t terms held
  IsAsking phase = ⊥

  -- a reply of one is awaited
  abbrev pub IsWaiting : Task → Phase S → Type 0
  IsWaiting task (Dialled held looks) = IsAmong w t terms held
  IsWaiting task (Searching held items slot looks) = IsAmong w t terms held
  IsWaiting task (Fetching held items slot hits looks) = IsAmong w t terms held
  IsWaiting task (Scanning held looks) = IsAmong w t terms held × IsScanning w t terms task held
  IsWaiting task phase = ⊥

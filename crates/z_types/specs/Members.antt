-- The addresses of the members of a class: a target's, or those of a group's targets
-- (this project's own)
use Rattle.std.specs.Prelude.{◌<◌, ◌≤◌, List, length, All}
use Rattle.z_types.specs.declared.address.Address.{Address}
use Rattle.z_types.specs.declared.address.Address.TheVariants.{Test, Tcp, Login}

-- an address as a configuration names it: a host has at most 64 octets, and it is inside no login
abbrev pub IsMember : Address → Type 0
IsMember (Test number) = Unit {0}
IsMember (Tcp host port) = length host ≤ 64
IsMember (Login site login) = ⊥

-- 1 to 16 addresses, as a configuration names them
pub record AreMembers (at : List Address) : Type 0 where
  pub some : 0 < length at
  pub few : length at ≤ 16
  pub each : All IsMember at

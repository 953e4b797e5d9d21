-- The commands (this project's own): `check` with the name of a configuration, `replay` with those
-- of a configuration and of a script, and `load` with a number of clients
use Rattle.z_types.specs.Same.{is_same}
use Rattle.std.specs.Prelude.{ℕ, List, [], ◌∷◌, Option, None, Some, if◌then◌else◌, codes}
use Rattle.script.specs.Events.{most_clients}
use Rattle.gateway_config.specs.Numbers.{number_in}

-- the name of the configuration to check
abbrev pub check_of : List (List ℕ) → Option (List ℕ)
check_of (word ∷ config ∷ []) = if is_same word (codes "check") then Some config else None
check_of words = None

-- the names of the configuration and of the script to replay
abbrev pub replay_of : List (List ℕ) → Option (List ℕ × List ℕ)
replay_of (word ∷ config ∷ script ∷ []) =
    if is_same word (codes "replay") then Some (config, script) else None
replay_of words = None

-- the clients of the load to play: as many as a script may have, in decimal without leading zeros
abbrev pub load_of : List (List ℕ) → Option ℕ
load_of (word ∷ number ∷ []) =
    if is_same word (codes "load") then number_in 0 most_clients number else None
load_of words = None

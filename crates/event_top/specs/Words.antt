-- The words of the command (this project's own): `events`, the name of a configuration, a port, and
-- how many connections may be open
use Rattle.std.specs.Prelude.{ℕ, List, [], ◌∷◌, if◌then◌else◌, codes, Option, None, Some}
use Rattle.z_types.specs.Same.{is_same}
use Rattle.gateway_config.specs.Numbers.{number_in}
use Rattle.event_top.specs.declared.words.EventsAsked.{EventsAsked}

-- both numbers
abbrev pub both_asked : Option ℕ → Option ℕ → Option EventsAsked
both_asked (Some port) (Some most) = Some (record { port = port; most = most })
both_asked port most = None

-- a port from 1 to 65535, and from 1 to 1000 connections
abbrev pub events_in : List ℕ → List ℕ → Option EventsAsked
events_in port most = both_asked (number_in 1 65535 port) (number_in 1 1000 most)

-- what these words ask for beside a configuration
abbrev pub events_of : List (List ℕ) → Option EventsAsked
events_of (word ∷ config ∷ port ∷ most ∷ []) =
    if is_same word (codes "events") then events_in port most else None
events_of words = None

-- the name of the configuration
abbrev pub config_of : List (List ℕ) → Option (List ℕ)
config_of (word ∷ config ∷ others) = Some config
config_of words = None

-- The words of the command (this project's own): `serve`, the name of a configuration, a port, and
-- the number of the workers
use Rattle.std.specs.Prelude.{ℕ, List, [], ◌∷◌, if◌then◌else◌, ◌==◌, codes, Option, None, Some}
use Rattle.z_types.specs.Same.{is_same}
use Rattle.gateway_config.specs.Numbers.{number_in}
use Rattle.serve_top.specs.declared.words.ServeWords.{ServeWords}

-- both numbers
abbrev pub both_asked : Option ℕ → Option ℕ → Option ServeWords
both_asked (Some port) (Some workers) = Some (record { port = port; workers = workers })
both_asked port workers = None

-- a port from 1 to 65535, and workers from 1 to 64
abbrev pub asked_in : List ℕ → List ℕ → Option ServeWords
asked_in port workers = both_asked (number_in 1 65535 port) (number_in 1 64 workers)

-- what these words ask for beside a configuration
abbrev pub asked_of : List (List ℕ) → Option ServeWords
asked_of (word ∷ config ∷ port ∷ workers ∷ []) =
    if is_same word (codes "serve") then asked_in port workers else None
asked_of words = None

-- the name of the configuration
abbrev pub config_of : List (List ℕ) → Option (List ℕ)
config_of (word ∷ config ∷ others) = Some config
config_of words = None

-- the name of the configuration, where so many workers are asked for
abbrev pub config_for : ℕ → Option ServeWords → List (List ℕ) → Option (List ℕ)
config_for workers (Some asked) words = if asked.workers == workers then config_of words else None
config_for workers None words = None

-- the name of the configuration, where these are the words of `serve` with so many workers
abbrev pub serve_of : ℕ → List (List ℕ) → Option (List ℕ)
serve_of workers words = config_for workers (asked_of words) words

-- Files in memory (this project's own): the first of a name counts
use Rattle.z_types.specs.Same.{is_same}
use Rattle.std.specs.Prelude.{ℕ, List, Option, find}
use Rattle.std.specs.Option.{option_map}

-- the file of a name, with its octets
abbrev pub file_named : List (List ℕ × List ℕ) → List ℕ → Option (List ℕ × List ℕ)
file_named files name = find (λ file. is_same file.0 name) files

-- the octets of the file of a name
abbrev pub octets_named : List (List ℕ × List ℕ) → List ℕ → Option (List ℕ)
octets_named files name = option_map (λ file. file.1) (file_named files name)

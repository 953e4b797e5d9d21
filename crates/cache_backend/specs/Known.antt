-- The keys that a session searched last, by the names of their result sets (this project's own)
use Rattle.std.specs.Prelude.{ℕ, not, List, [], ◌∷◌, filter, Option, None, Some, if◌then◌else◌}
use Rattle.z_types.specs.Same.{is_same}
use Rattle.z_types.specs.declared.key.SetKey.{SetKey}
use Rattle.cache_backend.specs.declared.known.Searched.{Searched}

-- the key of a name
abbrev pub known_under : List Searched → List ℕ → Option SetKey
known_under [] name = None
known_under (known ∷ others) name =
    if is_same known.name name then Some known.key else known_under others name

-- those of all names but one
abbrev pub without : List ℕ → List Searched → List Searched
without own searched = filter (λ known. not (is_same known.name own)) searched

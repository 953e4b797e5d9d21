-- What a session waits for, and the result sets that it made (this project's own)
use Rattle.std.specs.Prelude.{ℕ, not, List, [], ◌∷◌, filter, None, Some, if◌then◌else◌}
use Rattle.z_types.specs.Pending.{Pending, resting, opening, asked, broken}
use Rattle.z_types.specs.Same.{is_same}
use Rattle.gw_outside.specs.Sessions.{Made}
use Rattle.z_client.specs.declared.sets.FoundSet.{FoundSet}
use Rattle.z_client.specs.declared.sets.Waiting.{Waiting}
use Rattle.z_client.specs.declared.sets.Waiting.TheVariants as waiting

-- what a session waits for
abbrev pub pending_of : Waiting → Pending
pending_of waiting.Nothing = resting
pending_of waiting.Opening = opening
pending_of (waiting.Answer ask) = asked ask
pending_of waiting.Broken = broken

-- the set of each name
abbrev pub made_in : List FoundSet → Made
made_in [] name = None
made_in (set ∷ sets) name =
    if is_same set.name name then Some (set.key, set.hits) else made_in sets name

-- the sets of all names but one
abbrev pub without : List ℕ → List FoundSet → List FoundSet
without own sets = filter (λ set. not (is_same set.name own)) sets

-- The next call of an object, some of whose calls are to fail (this project's own)
use Rattle.std.specs.Prelude.{ℕ, Bool, List}
use Rattle.planned_calls.specs.declared.calls.Calls.{Calls}
use Rattle.planned_calls.specs.Calls.{next_call, is_to_fail}

-- no call was made; those of these numbers are to fail
abbrev pub new_calls : List ℕ → Calls
new_calls failing = record { failing = failing; made = 0 }

-- the next call is to fail
abbrev pub fails_next : Calls → Bool
fails_next calls = is_to_fail calls.failing (next_call calls.made)

-- one call more was made
abbrev pub after_call : Calls → Calls
after_call calls = record calls { made = next_call calls.made }
